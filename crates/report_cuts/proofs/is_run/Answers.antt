-- `report_cuts::is_run` meets its contract: both numbers are widened unchanged.
use Prim.Native.Nat.{ℕ, ◌+◌}
use mathlib.Core.Path.{ap₂, ◌∙◌}
use lib.Dec.{eqb}
use Rattle.report_cuts.proofs.is_run.Goals as goal

pub returns : goal.returns
returns c = ap₂ (λ (x y : ℕ). eqb x (768 + y)) (c.wide.ensures ∙ c.tag.ensures) c.wide-2.ensures
