-- `plan_restart::no_plan` meets its contract: field by field. Assumes nothing.
use Rattle.plan_restart.proofs.no_plan.Goals as goal

pub returns : goal.returns
returns c = simp (c.no_view.ensures, c.no_positions.ensures)
