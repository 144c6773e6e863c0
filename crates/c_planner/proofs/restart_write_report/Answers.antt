-- `c_planner::restart_write_report` is one call with that call's promise. Assumes nothing.
use Rattle.c_planner.proofs.restart_write_report.Goals as goal

pub returns : goal.returns
returns c = c.write_into.ensures
