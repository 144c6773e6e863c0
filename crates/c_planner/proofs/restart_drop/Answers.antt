-- `c_planner::restart_drop` is one call with that call's promise. Assumes nothing.
use Rattle.c_planner.proofs.restart_drop.Goals as goal

pub returns : goal.returns
returns c = c.take.ensures
