-- `c_planner::restart_decide_within` is one call with that call's promise. Assumes nothing.
use Rattle.c_planner.proofs.restart_decide_within.Goals as goal

pub returns : goal.returns
returns c = c.decide_within.ensures
