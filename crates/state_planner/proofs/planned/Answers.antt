-- `state_planner::planned` meets its contract: part by part. Assumes nothing.
use mathlib.Core.Path.{refl}
use Rattle.state_planner.specs.Definitions.{planned}
use Rattle.state_planner.proofs.planned.Goals as goal

pub returns : goal.returns
unfolding planned
returns c = refl
