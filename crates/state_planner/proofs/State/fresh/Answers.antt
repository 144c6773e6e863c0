-- `state_planner::State::fresh` meets its contract: field by field. Assumes nothing.
use Rattle.state_planner.specs.Definitions.{fresh}
use Rattle.state_planner.proofs.State.fresh.Goals as goal

pub returns : goal.returns
unfolding fresh
returns c = simp (c.no_latest.ensures, c.no_plan.ensures, c.no_positions.ensures, c.no_view.ensures)
