-- A valid placement has within it one of exactly the need of each shard, each node of another set, at no more moves. So there is a
-- valid placement exactly where there is an exact one, and the least moves are the same.
use Rattle.std.specs.Prelude.{◌≡◌, ◌&&◌}
use Rattle.std.proofs.Math.Path.{refl, sym}
use Rattle.std.proofs.Common.{◌∙◌}
use Rattle.std.proofs.Math.Bool.{Bool, true, false, cond}
use Prim.Native.Nat.{ℕ, ◌≤◌, ◌<◌}
use native.Mathlib.Omega.{arith}
use Rattle.std.proofs.Math.Dec.{eqb}
use borrow.Author.Tests.{eqb-true}
use Rattle.base_laws.specs.Bools.{and_left, and_right}
use Rattle.base_sum_laws.specs.Sums.{sum_mono, count_sum, count_once}
use Rattle.search_laws.specs.Case.{Case, Valid, size, meets, spread, moves}
use Rattle.search_laws.specs.Shards.{size_in, size_by_set, unmet_nodes}
use Rattle.search_laws.specs.Lesser.{Exact, kept_only, narrow_moves, narrow}

module _ (K : Case) (z : ℕ → ℕ) where
  -- an exact placement has at most one node of a set in a shard
  exact_once : Exact K z → (i f : ℕ) → i < 16 → size_in K z i f ≤ 1
  unfolding size_in
  exact_once x i f p =
      count_once 32 (λ n. eqb (z n) i && eqb (K.set_of n) f)
      (λ j k a b c d. x.apart j k a b (omega (arith, here j c)) (here j c ∙ sym (here k d)) (set j c ∙ sym (set k d)))
    where
      here : (n : ℕ) → (eqb (z n) i && eqb (K.set_of n) f) ≡ true → z n ≡ i
      here n e = eqb-true (z n) i (and_left (eqb (z n) i) (eqb (K.set_of n) f) e)

      set : (n : ℕ) → (eqb (z n) i && eqb (K.set_of n) f) ≡ true → K.set_of n ≡ f
      set n e = eqb-true (K.set_of n) f (and_right (eqb (z n) i) (eqb (K.set_of n) f) e)

  module _ (small : (n : ℕ) → n < 32 → K.set_of n < 16) where
    -- an exact placement is valid
    exact_spread : Exact K z → (i : ℕ) → i < 16 → size z i ≤ spread K z i
    unfolding spread
    exact_spread x i p =
        omega (
          arith,
          count_sum 16 (meets K z i),
          size_by_set K z i (λ n l e. small n l),
          sum_mono 16 (size_in K z i) (λ f. cond (meets K z i f) 1 0) (λ f l. most f (meets K z i f) refl),
        )
      where
        most : (f : ℕ) → (b : Bool) → meets K z i f ≡ b → size_in K z i f ≤ cond (meets K z i f) 1 0
        most f true e = simp e (exact_once x i f p)
        most f false e = simp e (omega (arith, unmet_nodes K z i f e))

    pub widen : ((i : ℕ) → i < 16 → K.need i ≤ K.cap i) → Exact K z → Valid K z
    widen room x =
        record {
          allowed = x.allowed;
          most = λ i p. omega (arith, x.sized i p, room i p);
          sets = λ i p. omega (arith, x.sized i p, exact_spread x i p);
        }

-- the least moves are the same: what no exact placement stays below, no valid one does
pub least_same : {K : Case} (small : (n : ℕ) → n < 32 → K.set_of n < 16) (price : ℕ → ℕ → ℕ) {k : ℕ} → ((y : ℕ → ℕ) → Exact K y → k ≤ moves price y) →
    (y : ℕ → ℕ) → Valid K y → k ≤ moves price y
least_same {K} small price h y v = omega (arith, h (kept_only K y) (narrow K y small v), narrow_moves K y price)
