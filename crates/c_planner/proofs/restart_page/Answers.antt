-- `c_planner::restart_page` is one call with that call's promise. Assumes nothing.
use Rattle.c_planner.proofs.restart_page.Goals as goal

pub returns : goal.returns
returns c = c.page.ensures
