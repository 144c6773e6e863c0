-- `c_planner::restart_preview_all` is one call with that call's promise. Assumes nothing.
use Rattle.c_planner.proofs.restart_preview_all.Goals as goal

pub returns : goal.returns
returns c = c.preview_all.ensures
