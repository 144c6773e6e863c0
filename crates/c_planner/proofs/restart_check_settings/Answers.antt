-- `c_planner::restart_check_settings` is one call with that call's promise. Assumes nothing.
use Rattle.c_planner.proofs.restart_check_settings.Goals as goal

pub returns : goal.returns
returns c = c.check_settings.ensures
