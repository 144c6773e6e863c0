-- `plan_seen::position_of` meets its contract: quotient and remainder.
use mathlib.Core.Path.{refl}
use Rattle.report_views.specs.Numbers.{from_number}
use Rattle.plan_seen.proofs.position_of.Goals as goal

pub returns : goal.returns
unfolding from_number
returns c = refl
