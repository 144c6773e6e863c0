-- `c_planner::restart_check_state` is one call with that call's promise. Assumes nothing.
use Rattle.c_planner.proofs.restart_check_state.Goals as goal

pub returns : goal.returns
returns c = c.check_state.ensures
