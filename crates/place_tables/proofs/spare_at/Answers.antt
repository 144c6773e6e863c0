-- `place_tables::spare_at` meets its contract: a need is at most the cap. Assumes nothing.
use Prim.Native.Nat.{ℕ, ◌-◌}
use mathlib.Core.Path.{ap₂}
use native.Mathlib.Omega.{arith}
use Rattle.place_laws.proofs.Cases.{need_cap, spare_most}
use Rattle.place_tables.proofs.spare_at.Goals as goal

pub overflow_sub-result : goal.overflow_sub-result
overflow_sub-result c =
    let m = c in omega (arith, c.cap_at.ensures, c.need_at.ensures, need_cap m.args.settings.now m.args.g m.args.s m.requires)

pub returns : goal.returns
returns c =
    let m = c in record { value = ap₂ (λ (a b : ℕ). a - b) c.cap_at.ensures c.need_at.ensures; upper_bound = omega (arith, c.cap_at.ensures, c.need_at.ensures, spare_most m.args.settings.now m.args.g m.args.s m.requires) }
