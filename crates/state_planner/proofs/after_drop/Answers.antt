-- `state_planner::after_drop` meets its contract: phase by phase. Assumes nothing.
use mathlib.Core.Path.{sym}
use Rattle.state_planner.specs.Definitions.{holding, dropped_in}
use Rattle.state_planner.proofs.after_drop.Goals as goal

pub returns-in-Gathering : goal.returns-in-Gathering
unfolding dropped_in holding
returns-in-Gathering c =
    simp (c.in-Gathering.is, sym c.without-held.ensures)

pub returns-in-Ordered : goal.returns-in-Ordered
unfolding dropped_in
returns-in-Ordered c =
    simp (c.in-Ordered.is, c.restarted.ensures)

pub returns-in-Preparing : goal.returns-in-Preparing
unfolding dropped_in
returns-in-Preparing c =
    simp (c.in-Preparing.is, c.restarted-in-Preparing.ensures)

pub returns-in-Committed : goal.returns-in-Committed
unfolding dropped_in
returns-in-Committed c =
    simp c.in-Committed.is
