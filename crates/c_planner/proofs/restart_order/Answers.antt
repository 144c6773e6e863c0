-- `c_planner::restart_order` is one call with that call's promise. Assumes nothing.
use Rattle.c_planner.proofs.restart_order.Goals as goal

pub returns : goal.returns
returns c = c.order.ensures
