-- `state_planner::after_verdict` meets its contract: by whether there is a plan. Assumes nothing.
use Rattle.state_planner.specs.Decide.{state_by, decision_by}
use Rattle.state_planner.proofs.after_verdict.Goals as goal

pub returns-in-Ok : goal.returns-in-Ok
unfolding state_by decision_by
returns-in-Ok c = simp (c.in-Ok.is, c.planned.ensures)

pub returns-in-Err : goal.returns-in-Err
unfolding state_by decision_by
returns-in-Err c = simp c.in-Err.is
