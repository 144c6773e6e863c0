-- Laws of the mask of the numbers below a bound that pass a test.
use Rattle.std.specs.Prelude.{◌≡◌, refl, Bool, true, false, cond, ◌&&◌, ◌||◌, ◌⊎◌, ℕ, zero, suc, ◌+◌, ◌^◌, ◌<◌, ◌≤◌, ltb}
use Rattle.std.proofs.Common.{sym, ap, ◌∙◌, subst, inl, inr, ⊎_elim, zero-le, add-one, arith, pow_pos, lt-ltb, le-ltb, eq-eqb, ne_eqb}
use Rattle.std.proofs.Math.Bool.{or-false}
use Rattle.std.proofs.Math.Arith.{lt_of_le-ne}
use Rattle.base_laws.specs.Bools.{either, and_both, and_fails_left, and_fails_right, or_right, eq_or_ne, lt_or_le}
use Rattle.base_laws.specs.Definitions.{has, with}
use Rattle.base_laws.specs.Masks.{has_zero, has_with, with_lt}
use Rattle.base_sum_laws.specs.Definitions.{mask_below}

pub mask_none : (f : ℕ → Bool) → mask_below 0 f ≡ 0
unfolding mask_below
mask_none f = refl

-- a turn of a loop
pub mask_turn : (n m r : ℕ) (f : ℕ → Bool) → m ≡ mask_below n f → r ≡ cond (f n) (with m n) m → r ≡ mask_below (n + 1) f
unfolding mask_below
mask_turn n m r f e d = rw (add-one n) (d ∙ ap (λ (x : ℕ). cond (f n) (with x n) x) e)

pub has_mask : (n : ℕ) (f : ℕ → Bool) (k : ℕ) → has (mask_below n f) k ≡ (ltb k n && f k)
unfolding mask_below
has_mask zero f k = has_zero k ∙ sym (rw (le-ltb k 0 zero-le))
has_mask (suc n) f k = go (either (f n)) (has_mask n f k) (eq_or_ne k n)
  where
    past : (k ≡ n → ⊥) → ltb k n ≡ ltb k (suc n)
    past d =
        ⊎_elim (λ l. lt-ltb k n l ∙ sym (lt-ltb k (suc n) (omega arith)))
        (λ l. le-ltb k n l ∙ sym (le-ltb k (suc n) (lt_of_le-ne l (λ e. d (sym e)))))
        (lt_or_le k n)

    go : (f n ≡ true) ⊎ (f n ≡ false) → has (mask_below n f) k ≡ (ltb k n && f k) → (k ≡ n) ⊎ (k ≡ n → ⊥)
        → has (cond (f n) (with (mask_below n f) n) (mask_below n f)) k ≡ (ltb k (suc n) && f k)
    go (inl h) rest (inl e) =
        rw h
        (has_with (mask_below n f) n k ∙ or_right (has (mask_below n f) k) (eq-eqb n k (sym e))
        ∙ sym (and_both (lt-ltb k (suc n) (omega arith)) (subst (λ (x : ℕ). f x ≡ true) (sym e) h)))
    go (inl h) rest (inr d) =
        rw h
        (has_with (mask_below n f) n k
        ∙ ap (λ (b : Bool). has (mask_below n f) k || b) (ne_eqb n k (λ e. d (sym e)))
        ∙ or-false (has (mask_below n f) k)
        ∙ rest
        ∙ ap (λ (b : Bool). b && f k) (past d))
    go (inr h) rest (inl e) =
        rw h
        (rest ∙ and_fails_left (f k) (le-ltb k n (omega arith))
        ∙ sym (and_fails_right (ltb k (suc n)) (subst (λ (x : ℕ). f x ≡ false) (sym e) h)))
    go (inr h) rest (inr d) = rw h (rest ∙ ap (λ (b : Bool). b && f k) (past d))

-- below the bound a bit is f's own
pub mask-at : (n : ℕ) (f : ℕ → Bool) (k : ℕ) → k < n → has (mask_below n f) k ≡ f k
mask-at n f k l = has_mask n f k ∙ rw (lt-ltb k n l)

pub mask_lt : (w n : ℕ) (f : ℕ → Bool) → n ≤ w → mask_below n f < 2 ^ w
unfolding mask_below
mask_lt w zero f l = pow_pos w
mask_lt w (suc n) f l =
    ⊎_elim (λ h. rw h (with_lt w (mask_below n f) n (mask_lt w n f (omega arith)) l)) (λ h. rw h (mask_lt w n f (omega arith))) (either (f n))
