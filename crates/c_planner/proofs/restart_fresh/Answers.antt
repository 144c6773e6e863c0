-- `c_planner::restart_fresh` is one call with that call's promise. Assumes nothing.
use Rattle.c_planner.proofs.restart_fresh.Goals as goal

pub returns : goal.returns
returns c = c.fresh.ensures
