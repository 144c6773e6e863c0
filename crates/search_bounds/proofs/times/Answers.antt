-- Two numbers below 256 have a product below 65536. Assumes nothing.
use Prim.Native.Nat.{ℕ, ◌*◌, ◌≤◌}
use mathlib.Core.Path.{ap₂}
use native.Mathlib.Nat.{mul-le-mul}
use native.Mathlib.Omega.{arith}
use Rattle.search_bounds.proofs.times.Goals as goal

small : (a b : ℕ) → a ≤ 255 → b ≤ 65535 → a * b ≤ 16711425
small a b p q = mul-le-mul p q

pub overflow_mul-result : goal.overflow_mul-result
overflow_mul-result c = record { fits = omega (arith, small c.wide.result c.large.result (omega arith) (omega arith)) }

pub returns : goal.returns
returns c = (
  ap₂ (λ (a b : ℕ). a * b) c.wide.ensures.0 c.large.ensures.0,
  omega (arith, small c.wide.result c.large.result (omega arith) (omega arith)),
)
