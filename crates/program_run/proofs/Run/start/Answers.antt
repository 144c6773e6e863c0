-- `program_run::Run::start` meets its contract. Assumes nothing.
use mathlib.Core.Path.{ap}
use lib.ListN.{replicate}
use Rattle.state_planner.specs.declared.State.{State}
use Rattle.program_run.specs.declared.Stage.TheVariants.{Opening}
use Rattle.program_run.proofs.Run.start.Goals as goal

pub returns : goal.returns
returns c = ap (λ (x : State). record { stage = Opening; state = x; settings = replicate 52 0; words = 0; pending = 0 }) c.fresh.ensures
