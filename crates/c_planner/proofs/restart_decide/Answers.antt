-- `c_planner::restart_decide` is one call with that call's promise. Assumes nothing.
use Rattle.c_planner.proofs.restart_decide.Goals as goal

pub returns : goal.returns
returns c = c.decide.ensures
