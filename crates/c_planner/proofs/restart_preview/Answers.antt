-- `c_planner::restart_preview` is one call with that call's promise. Assumes nothing.
use Rattle.c_planner.proofs.restart_preview.Goals as goal

pub returns : goal.returns
returns c = c.preview.ensures
