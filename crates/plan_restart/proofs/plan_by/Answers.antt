-- `plan_restart::plan_by` meets its contract: field by field. Assumes nothing.
use mathlib.Core.Path.{refl}
use Rattle.plan_restart.specs.Planning.{plan_by}
use Rattle.plan_restart.proofs.plan_by.Goals as goal

pub returns : goal.returns
unfolding plan_by
returns c = refl
