-- Laws of masks. Most go by one step: the lowest bit is `m % 2`, and the others are the bits of `m / 2`.
use Rattle.std.specs.Prelude.{◌≡◌, ◌⊎◌, true, false, not, ◌&&◌, ◌||◌, ℕ, ◌+◌, ◌^◌, ◌≤◌, ◌<◌, eqb}
use Rattle.std.proofs.Common.{sym, ap, ◌∙◌, subst, inl, inr, ⊎_elim, le_refl, not-suc-le-zero, lt_of_le_of_lt, arith, eqb-true}
use Rattle.std.proofs.Math.Bool.{and-true}
use Rattle.std.specs.Int.Bits.{bit_and}
use Rattle.base_laws.specs.Bools.{either, clash, and_left, and_right, and_fails_left, or-holds, or_fails_left, or_fails_right, of_not_false}
use Rattle.base_laws.specs.Definitions.{all_below, has, within, subset, count, minus, with, without}
use Rattle.base_laws.specs.Below.{all_at, all_counter, count_cong, count_mono, count_without}
use Rattle.base_laws.specs.Masks.{has_and, has_minus, has_below, has_with, has_without, without_lt, width, ext_all, subset_has, subset_of, subset_le, within_lt, lt_within, count-below}

-- some bit of a is no bit of b
pub subset_counter : (w a b : ℕ) → a < 2 ^ w → subset a b ≡ false → (n : ℕ) × (n < w) × (has a n ≡ true) × (has b n ≡ false)
subset_counter w a b h s =
    ⊎_elim
    (λ e. clash (subset_of w a b h (λ n l p. outside n (all_at w (λ k. not (has a k) || has b k) e n l) p)) s)
    (λ e. let c = all_counter w (λ k. not (has a k) || has b k) e in (
      c.0,
      c.1,
      of_not_false (has a c.0) (or_fails_left (not (has a c.0)) (has b c.0) c.2),
      or_fails_right (not (has a c.0)) (has b c.0) c.2,
    ))
    (either (all_below w (λ k. not (has a k) || has b k)))
  where
    outside : (n : ℕ) → (not (has a n) || has b n) ≡ true → has a n ≡ true → has b n ≡ true
    outside n e p = rw p at e

pub subset_zero : (b : ℕ) → subset 0 b ≡ true
subset_zero b = subset_of 0 0 b (le_refl 1) (λ n l. absurd (not-suc-le-zero l))

-- what is common is a subset of either, and so is what is left
pub and_subset_left : (a b : ℕ) → subset (bit_and a b) a ≡ true
and_subset_left a b =
    subset_of (bit_and a b) (bit_and a b) a (width (bit_and a b)) (λ n l p. and_left (has a n) (has b n) (sym (has_and a b n) ∙ p))

pub and_subset_right : (a b : ℕ) → subset (bit_and a b) b ≡ true
and_subset_right a b =
    subset_of (bit_and a b) (bit_and a b) b (width (bit_and a b)) (λ n l p. and_right (has a n) (has b n) (sym (has_and a b n) ∙ p))

pub minus_subset : (a b : ℕ) → subset (minus a b) a ≡ true
minus_subset a b =
    subset_of (minus a b) (minus a b) a (width (minus a b)) (λ n l p. and_left (has a n) (not (has b n)) (sym (has_minus a b n) ∙ p))

-- a bit more that the greater mask has
pub subset_with : (a b n : ℕ) → subset a b ≡ true → has b n ≡ true → subset (with a n) b ≡ true
subset_with a b n s p =
    subset_of (with a n) (with a n) b (width (with a n)) (λ k l q.
    ⊎_elim (λ e. subset_has a b s k e) (λ e. subst (λ (m : ℕ). has b m ≡ true) (eqb-true n k e) p)
    (or-holds (has a k) (eqb n k) (sym (has_with a n k) ∙ q)))

pub within_subset : (n a b : ℕ) → subset a b ≡ true → within n b ≡ true → within n a ≡ true
within_subset n a b s e = lt_within n a (omega (arith, subset_le a b s, within_lt n b e))

pub count_subset : (a b : ℕ) → subset a b ≡ true → count a ≤ count b
count_subset a b s =
    let h : a < 2 ^ b = lt_of_le_of_lt (subset_le a b s) (width b) in
    rw (count-below b a h, count-below b b (width b)) (count_mono b (has a) (has b) (λ n l p. subset_has a b s n p))

pub count_cleared : (m k : ℕ) → has m k ≡ true → count (without m k) + 1 ≡ count m
count_cleared m k p =
    ap (λ (x : ℕ). x + 1)
    (count-below m (without m k) (without_lt m m k (width m))
    ∙ count_cong m (has (without m k)) (λ n. has m n && not (eqb k n)) (λ n i. has_without m k n))
    ∙ count_without m (has m) k (has_below m m k (width m) p) p
    ∙ sym (count-below m m (width m))

pub without_same : (m k : ℕ) → has m k ≡ false → without m k ≡ m
without_same m k p =
    ext_all (without m k) m (λ n. has_without m k n ∙ kept n (either (eqb k n)))
  where
    kept : (n : ℕ) → (eqb k n ≡ true) ⊎ (eqb k n ≡ false) → (has m n && not (eqb k n)) ≡ has m n
    kept n (inl e) =
        let q : has m n ≡ false = subst (λ (x : ℕ). has m x ≡ false) (eqb-true k n e) p in and_fails_left (not (eqb k n)) q ∙ sym q
    kept n (inr e) = rw e (and-true (has m n))
