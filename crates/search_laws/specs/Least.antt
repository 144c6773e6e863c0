-- Least weight: the first placement within a bound that no valid placement stays below is the first of least weight.
use Rattle.std.specs.Prelude.{cond, ℕ, ◌-◌, ◌≤◌, ◌<◌}
use Rattle.std.proofs.Common.{⊎_elim, arith, lt-ltb, le-ltb}
use Rattle.base_laws.specs.Bools.{lt_or_le}
use Rattle.base_sum_laws.proofs.Sums.{sum_bound}
use Rattle.search_laws.specs.Case.{Case, Valid, WeighsWithin, LeastWeight, has_owner, weight}
use Rattle.search_laws.specs.Order.{First, HasNone}

-- every valid placement weighs at least k
pub record AtLeast (K : Case) (k : ℕ) : Type 0 where
  pub bound : (y : ℕ → ℕ) → Valid K y → k ≤ weight K y

-- a valid placement weighs at most 8192, where nowhere costs less than 256
pub weight_most : {K : Case} {z : ℕ → ℕ} → K.idle < 256 → Valid K z → weight K z ≤ 8192
unfolding weight
weight_most {K} {z} d v = omega (arith, sum_bound 32 256 (λ n. cond (has_owner z n) (K.cost (z n) n) K.idle) at)
  where
    at : (n : ℕ) → n < 32 → cond (has_owner z n) (K.cost (z n) n) K.idle ≤ 256
    at n l =
        ⊎_elim (λ h. simp (lt-ltb (z n) 16 h) (omega (arith, v.allowed n l h))) (λ h. simp (le-ltb (z n) 16 h) (omega arith))
        (lt_or_le (z n) 16)

-- where none weighs less than k: k is 0, or there is none within k - 1
pub at_least_zero : {K : Case} {k : ℕ} → k ≤ 0 → AtLeast K k
at_least_zero l = record { bound = λ y v. omega arith }

pub at_least_next : {K : Case} {k : ℕ} → HasNone (WeighsWithin K (k - 1)) → AtLeast K k
at_least_next {K} {k} n =
    record { bound = λ y v. ⊎_elim (λ h. absurd (n.none y (record { valid = v; cheap = omega arith }))) (λ h. h) (lt_or_le (weight K y) k) }

pub first_least : {K : Case} {k : ℕ} {z : ℕ → ℕ} → AtLeast K k → First (WeighsWithin K k) z → First (LeastWeight K) z
first_least {K} {k} {z} a f =
    record {
      is = record { valid = f.is.valid; least = λ y v. omega (arith, f.is.cheap, a.bound y v) };
      first = λ y g. f.first y (record { valid = g.valid; cheap = omega (arith, g.least z f.is.valid, f.is.cheap) });
    }
