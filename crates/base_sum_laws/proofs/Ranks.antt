-- Laws of the i-th of the numbers below a bound of which a test holds. Its rank, how many such numbers lie below it, is i, so rank and
-- number are inverse to one another and rise together.
use Rattle.std.specs.Prelude.{ℕ, zero, suc, ◌+◌, ◌<◌, Bool, true, false, ◌⊎◌, ◌≡◌, eqb}
use Rattle.std.proofs.Common.{arith, inl, inr, sym, ap, ◌∙◌}
use borrow.Author.Tests.{eqb-true, eq-eqb}
use Rattle.base_laws.specs.Bools.{either, and_both, and_left, and_right, eq_or_ne}
use Rattle.base_laws.specs.Definitions.{count_below, any_below}
use Rattle.base_laws.specs.Below.{any_at, lowest-holds, lowest_below, count_hit, count_miss, count_zero}
use Rattle.base_sum_laws.specs.Definitions.{is_nth, nth}

module _ (f : ℕ → Bool) where
  -- each rank below the count is the rank of a number
  ranked : (n i : ℕ) → i < count_below n f → (k : ℕ) × (k < n) × (is_nth f i k ≡ true)
  ranked zero i l = absurd (omega (arith, count_zero f))
  ranked (suc n) i l = go (ranked n i) (either (f n)) (eq_or_ne i (count_below n f))
    where
      more : f n ≡ true → count_below (suc n) f ≡ count_below n f + 1
      more p = ap (λ (m : ℕ). count_below m f) (let e : suc n ≡ n + 1 = omega arith in e) ∙ count_hit n f p

      same : f n ≡ false → count_below (suc n) f ≡ count_below n f
      same p = ap (λ (m : ℕ). count_below m f) (let e : suc n ≡ n + 1 = omega arith in e) ∙ count_miss n f p

      go : (i < count_below n f → (k : ℕ) × (k < n) × (is_nth f i k ≡ true)) → (f n ≡ true) ⊎ (f n ≡ false)
          → (i ≡ count_below n f) ⊎ (i ≡ count_below n f → ⊥) → (k : ℕ) × (k < suc n) × (is_nth f i k ≡ true)
      go rest (inl p) (inl e) = (n, omega arith, and_both p (eq-eqb (count_below n f) i (sym e)))
      go rest (inl p) (inr e) = let w = rest (omega (arith, more p)) in (w.0, omega (arith, w.1), w.2)
      go rest (inr p) e = let w = rest (omega (arith, same p)) in (w.0, omega (arith, w.1), w.2)

  module _ (n : ℕ) where
    found : (i : ℕ) → i < count_below n f → any_below n (is_nth f i) ≡ true
    found i l = let w = ranked n i l in any_at n (is_nth f i) w.0 w.1 w.2

    pub nth_below : (i : ℕ) → i < count_below n f → nth n f i < n
    unfolding nth
    nth_below i l = lowest_below n (is_nth f i) (found i l)

    pub nth-holds : (i : ℕ) → i < count_below n f → f (nth n f i) ≡ true
    unfolding nth
    nth-holds i l =
        and_left (f (nth n f i)) (eqb (count_below (nth n f i) f) i) (lowest-holds n (is_nth f i) (found i l))

    -- the rank of the i-th is i
    pub rank_nth : (i : ℕ) → i < count_below n f → count_below (nth n f i) f ≡ i
    unfolding nth
    rank_nth i l =
        eqb-true (count_below (nth n f i) f) i
        (and_right (f (nth n f i)) (eqb (count_below (nth n f i) f) i) (lowest-holds n (is_nth f i) (found i l)))
