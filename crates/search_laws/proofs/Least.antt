-- Least weight: the first placement within a bound that no valid placement stays below is the first of least weight.
use Rattle.std.specs.Prelude.{ℕ, ◌≤◌, ◌<◌}
use Rattle.std.proofs.Common.{arith}
use Rattle.search_laws.specs.Case.{Case, Valid, WeighsWithin}
use Rattle.search_laws.specs.Order.{HasNone}
use Rattle.search_laws.specs.Least.{AtLeast, weight_most}

-- none within 8192: none at all
pub none_all : {K : Case} {k : ℕ} → K.idle < 256 → 8192 ≤ k → HasNone (WeighsWithin K k) → HasNone (Valid K)
none_all d h n = record { none = λ y v. n.none y (record { valid = v; cheap = omega (arith, weight_most d v) }) }

-- a bound above 8192 is none
pub none_above : {K : Case} {k : ℕ} → K.idle < 256 → 8192 < k → AtLeast K k → HasNone (Valid K)
none_above d h a = record { none = λ y v. omega (arith, weight_most d v, a.bound y v) }
