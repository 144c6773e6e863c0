-- The next state, or beside a refusal the state as it was.
use mathlib.Core.Path.{sym, ap}
use Rattle.state_planner.specs.Events.{outcome_by}
use Rattle.state_planner.proofs.handed_back.Goals as goal

pub returns-in-Ok : goal.returns-in-Ok
returns-in-Ok c = ap (outcome_by c.args.x) (sym c.in-Ok.is)

pub returns-in-Err : goal.returns-in-Err
returns-in-Err c = ap (outcome_by c.args.x) (sym c.in-Err.is)
