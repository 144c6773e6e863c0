-- `c_planner::restart_report` is one call with that call's promise. Assumes nothing.
use Rattle.c_planner.proofs.restart_report.Goals as goal

pub returns : goal.returns
returns c = c.report.ensures
