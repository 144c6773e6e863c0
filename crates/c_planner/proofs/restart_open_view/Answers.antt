-- `c_planner::restart_open_view` is one call with that call's promise. Assumes nothing.
use Rattle.c_planner.proofs.restart_open_view.Goals as goal

pub returns : goal.returns
returns c = c.open_view.ensures
