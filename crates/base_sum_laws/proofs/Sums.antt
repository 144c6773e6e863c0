-- Laws of the sum of f over the numbers below n: congruence, order, addition, exchange, one term alone, a constant, the sum over keys (each
-- number below n adds the weight of its key), and sums that are as large or differ in one term.
use Rattle.std.specs.Prelude.{◌≡◌, refl, Bool, true, false, cond, ℕ, zero, suc, ◌+◌, ◌*◌, ◌≤◌, ◌<◌, eqb, ltb}
use Rattle.std.proofs.Common.{sym, ap, ◌∙◌, subst, ⊎_elim, mul-zero, zero-mul, add-one, arith}
use Rattle.base_laws.specs.Bools.{lt_or_le}
use Rattle.base_laws.specs.Definitions.{count_below}
use Rattle.base_sum_laws.specs.Definitions.{sum_below}
use Rattle.base_sum_laws.specs.Sums.{sum_suc, sum_cong, sum_mono, sum_add, sum_const, sum_single}

-- one term more, as a loop's counter has it
pub sum_next : (n : ℕ) (f : ℕ → ℕ) → sum_below (n + 1) f ≡ sum_below n f + f n
sum_next n f = rw add-one (sum_suc n f)

-- a loop that adds up: a turn, and the end
pub sum_turn : (n total r : ℕ) (f : ℕ → ℕ) → total ≡ sum_below n f → r ≡ f n → total + r ≡ sum_below (n + 1) f
sum_turn n total r f e d = omega (arith, sum_next n f)

-- every term 0
pub sum_none : (n : ℕ) (f : ℕ → ℕ) → ((k : ℕ) → k < n → f k ≡ 0) → sum_below n f ≡ 0
sum_none n f h = sum_cong n f (λ k. 0) h ∙ (sum_const n 0 ∙ mul-zero n)

-- each term at most c
pub sum_bound : (n c : ℕ) (f : ℕ → ℕ) → ((k : ℕ) → k < n → f k ≤ c) → sum_below n f ≤ n * c
sum_bound n c f h = omega (arith, sum_mono n f (λ k. c) h, sum_const n c)

-- exchange of two sums
pub sum_swap : (n m : ℕ) (f : ℕ → ℕ → ℕ) → sum_below n (λ i. sum_below m (f i)) ≡ sum_below m (λ j. sum_below n (λ i. f i j))
unfolding sum_below
sum_swap zero m f = sym (sum_none m (λ j. 0) (λ j l. refl))
sum_swap (suc n) m f =
    omega (arith, sum_swap n m f, sum_add m (λ j. sum_below n (λ i. f i j)) (f n))

-- how many times a key stands, times its weight, over all keys: the sum of the weights of the keys that stand
pub sum_by_key : (n m : ℕ) (key : ℕ → ℕ) (u : ℕ → ℕ) →
    sum_below n (λ k. cond (ltb (key k) m) (u (key k)) 0) ≡ sum_below m (λ i. count_below n (λ k. eqb (key k) i) * u i)
unfolding sum_below count_below
sum_by_key zero m key u = sym (sum_none m (λ i. 0 * u i) (λ i l. zero-mul (u i)))
sum_by_key (suc n) m key u =
    omega (
      arith,
      sum_by_key n m key u,
      sum_single m (key n) u,
      sum_add m (λ i. count_below n (λ k. eqb (key k) i) * u i) (λ i. cond (eqb (key n) i) (u i) 0),
      sum_cong m (λ i. (count_below n (λ k. eqb (key k) i) + cond (eqb (key n) i) 1 0) * u i)
          (λ i. count_below n (λ k. eqb (key k) i) * u i + cond (eqb (key n) i) (u i) 0) (λ i l. more (eqb (key n) i) (count_below n (λ k. eqb (key k) i)) (u i)),
    )
  where
    more : (b : Bool) (a w : ℕ) → (a + cond b 1 0) * w ≡ a * w + cond b w 0
    more true a w = omega arith
    more false a w = omega arith

-- terms that are at most others, with a sum that is not less, are those others
pub sum_tight : (n : ℕ) (f g : ℕ → ℕ) → ((k : ℕ) → k < n → f k ≤ g k) → sum_below n g ≤ sum_below n f → (k : ℕ) → k < n → g k ≤ f k
unfolding sum_below
sum_tight zero f g h e k l = absurd (omega arith)
sum_tight (suc n) f g h e k l =
    ⊎_elim (λ d. sum_tight n f g (λ j i. h j (omega arith)) (omega (arith, h n (omega arith))) k d)
    (λ d. let z : k ≡ n = omega arith in subst (λ (j : ℕ). g j ≤ f j) (sym z) (omega (arith, sum_mono n f g (λ j i. h j (omega arith)))))
    (lt_or_le k n)

-- sums that differ in one term alone
pub sum_but_one : (n : ℕ) (f g : ℕ → ℕ) (k : ℕ) → k < n → ((j : ℕ) → j < n → (j ≡ k → ⊥) → f j ≡ g j) → sum_below n f + g k ≡ sum_below n g + f k
unfolding sum_below
sum_but_one zero f g k l h = absurd (omega arith)
sum_but_one (suc n) f g k l h =
    ⊎_elim (λ d. omega (arith, sum_but_one n f g k d (λ j i o. h j (omega arith) o), h n (omega arith) (λ e. omega arith)))
    (λ d.
    let z : k ≡ n = omega arith in
    let a : f k ≡ f n = ap f z in
    let b : g k ≡ g n = ap g z in
    omega (arith, sum_cong n f g (λ j i. h j (omega arith) (λ e. omega arith))))
    (lt_or_le k n)
