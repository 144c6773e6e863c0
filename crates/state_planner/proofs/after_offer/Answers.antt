-- `state_planner::after_offer` meets its contract: what the plan or the wait leads to, with the gap. Assumes nothing.
use Rattle.state_planner.proofs.after_offer.Goals as goal

pub returns-in-Ok : goal.returns-in-Ok
returns-in-Ok c = simp (c.in-Ok.is, c.within.ensures, c.after_verdict.ensures)

pub returns-in-Err : goal.returns-in-Err
returns-in-Err c = simp (c.in-Err.is, c.within-in-Err.ensures, c.after_verdict-in-Err.ensures)
