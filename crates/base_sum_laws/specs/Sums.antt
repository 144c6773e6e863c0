-- Laws of the sum of f over the numbers below n: congruence, order, addition, exchange, one term alone, a constant, the sum over keys (each
-- number below n adds the weight of its key), and sums that are as large or differ in one term.
use Rattle.std.specs.Prelude.{◌≡◌, refl, Bool, true, false, cond, ℕ, zero, suc, ◌+◌, ◌*◌, ◌≤◌, ◌<◌, eqb, ltb}
use Rattle.std.proofs.Common.{sym, ap, ap₂, ◌∙◌, zero-le, le_antisymm, zero-mul, arith, eqb-true, lt-ltb, le-ltb, ltb-true, ltb-false}
use Rattle.std.proofs.lemmas.Bool.{eqb-false}
use Rattle.base_laws.specs.Definitions.{count_below}
use Rattle.base_laws.specs.Below.{count_none, any_none_of}
use Rattle.base_sum_laws.specs.Definitions.{sum_below}

pub sum_zero : (f : ℕ → ℕ) → sum_below 0 f ≡ 0
unfolding sum_below
sum_zero f = refl

pub sum_suc : (n : ℕ) (f : ℕ → ℕ) → sum_below (suc n) f ≡ sum_below n f + f n
unfolding sum_below
sum_suc n f = refl

pub sum_done : {n m : ℕ} → n ≤ m → m ≤ n → (total : ℕ) (f : ℕ → ℕ) → total ≡ sum_below n f → total ≡ sum_below m f
sum_done l g total f e = e ∙ ap (λ (k : ℕ). sum_below k f) (le_antisymm l g)

pub sum_cong : (n : ℕ) (f g : ℕ → ℕ) → ((k : ℕ) → k < n → f k ≡ g k) → sum_below n f ≡ sum_below n g
unfolding sum_below
sum_cong zero f g h = refl
sum_cong (suc n) f g h = ap₂ (λ (a b : ℕ). a + b) (sum_cong n f g (λ k l. h k (omega arith))) (h n (omega arith))

pub sum_mono : (n : ℕ) (f g : ℕ → ℕ) → ((k : ℕ) → k < n → f k ≤ g k) → sum_below n f ≤ sum_below n g
unfolding sum_below
sum_mono zero f g h = zero-le
sum_mono (suc n) f g h = omega (arith, sum_mono n f g (λ k l. h k (omega arith)), h n (omega arith))

pub sum_add : (n : ℕ) (f g : ℕ → ℕ) → sum_below n (λ k. f k + g k) ≡ sum_below n f + sum_below n g
unfolding sum_below
sum_add zero f g = refl
sum_add (suc n) f g = omega (arith, sum_add n f g)

pub sum_const : (n c : ℕ) → sum_below n (λ k. c) ≡ n * c
unfolding sum_below
sum_const zero c = sym (zero-mul c)
sum_const (suc n) c = omega (arith, sum_const n c)

-- one term alone: the sum of f at a, where a is below n
pub sum_single : (n a : ℕ) (f : ℕ → ℕ) → sum_below n (λ k. cond (eqb a k) (f k) 0) ≡ cond (ltb a n) (f a) 0
unfolding sum_below
sum_single zero a f = sym (ap (λ (b : Bool). cond b (f a) 0) (le-ltb a 0 zero-le))
sum_single (suc n) a f = go (sum_single n a f) (eqb a n) refl (ltb a n) refl
  where
    go : sum_below n (λ k. cond (eqb a k) (f k) 0) ≡ cond (ltb a n) (f a) 0 →
        (b : Bool) → eqb a n ≡ b → (d : Bool) → ltb a n ≡ d →
        sum_below n (λ k. cond (eqb a k) (f k) 0) + cond (eqb a n) (f n) 0 ≡ cond (ltb a (suc n)) (f a) 0
    go h true e true d = absurd (omega (arith, eqb-true a n e, ltb-true a n d))
    go h true e false d =
        simp (e, lt-ltb a (suc n) (omega (arith, eqb-true a n e)), h, d) (omega (arith, ap f (eqb-true a n e)))
    go h false e true d =
        simp (e, lt-ltb a (suc n) (omega (arith, ltb-true a n d)), h, d) (omega arith)
    go h false e false d =
        simp (e, le-ltb a (suc n) (omega (arith, eqb-false a n e, ltb-false a n d)), h, d) (omega arith)

-- a count is a sum
pub count_sum : (n : ℕ) (f : ℕ → Bool) → count_below n f ≡ sum_below n (λ k. cond (f k) 1 0)
unfolding count_below sum_below
count_sum zero f = refl
count_sum (suc n) f = ap (λ (a : ℕ). a + cond (f n) 1 0) (count_sum n f)

-- what holds of at most one number is counted at most once
pub count_once : (n : ℕ) (f : ℕ → Bool) → ((j k : ℕ) → j < n → k < n → f j ≡ true → f k ≡ true → j ≡ k) → count_below n f ≤ 1
unfolding count_below
count_once zero f h = zero-le
count_once (suc n) f h = go (count_once n f (λ j k p q. h j k (omega arith) (omega arith))) (f n) refl
  where
    clear : f n ≡ true → (k : ℕ) → k < n → (b : Bool) → f k ≡ b → f k ≡ false
    clear e k l true d = absurd (omega (arith, h k n (omega arith) (omega arith) d e))
    clear e k l false d = d

    go : count_below n f ≤ 1 → (b : Bool) → f n ≡ b → count_below n f + cond (f n) 1 0 ≤ 1
    go i true e = simp (e, count_none n f (any_none_of n f (λ k l. clear e k l (f k) refl))) (omega arith)
    go i false e = simp e (omega arith)

-- terms that are 0 add nothing
pub sum_past : (m n : ℕ) (f : ℕ → ℕ) → m ≤ n → ((k : ℕ) → m ≤ k → k < n → f k ≡ 0) → sum_below n f ≡ sum_below m f
unfolding sum_below
sum_past m zero f l h = let d : 0 ≡ m = omega arith in ap (λ (k : ℕ). sum_below k f) d
sum_past m (suc n) f l h = go (ltb n m) refl (sum_past m n f)
  where
    go : (b : Bool) → ltb n m ≡ b → (m ≤ n → ((k : ℕ) → m ≤ k → k < n → f k ≡ 0) → sum_below n f ≡ sum_below m f) → sum_below n f + f n ≡ sum_below m f
    go true e i = let d : suc n ≡ m = omega (arith, ltb-true n m e) in ap (λ (k : ℕ). sum_below k f) d
    go false e i = omega (arith, i (omega (arith, ltb-false n m e)) (λ k p q. h k p (omega arith)), h n (omega (arith, ltb-false n m e)) (omega arith))

-- a count times a number, as a sum
pub count_times : (n c : ℕ) (f : ℕ → Bool) → count_below n f * c ≡ sum_below n (λ k. cond (f k) c 0)
unfolding count_below sum_below
count_times zero c f = omega arith
count_times (suc n) c f = go (count_times n c f) (f n)
  where
    go : count_below n f * c ≡ sum_below n (λ k. cond (f k) c 0) → (b : Bool) →
        (count_below n f + cond b 1 0) * c ≡ sum_below n (λ k. cond (f k) c 0) + cond b c 0
    go h true = omega arith
    go h false = omega arith

-- a factor of every term
pub sum_scale : (n c : ℕ) (f : ℕ → ℕ) → sum_below n (λ k. f k * c) ≡ sum_below n f * c
unfolding sum_below
sum_scale zero c f = omega arith
sum_scale (suc n) c f = omega (arith, sum_scale n c f)
