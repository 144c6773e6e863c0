-- `c_planner::restart_prepared` is one call with that call's promise. Assumes nothing.
use Rattle.c_planner.proofs.restart_prepared.Goals as goal

pub returns : goal.returns
returns c = c.take.ensures
