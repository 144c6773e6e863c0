-- Laws of all, some, the lowest, and how many of the numbers below a bound. A law takes the bound and the test first, so that `all-at n f
-- h` is the statement for every number.
use Rattle.std.specs.Prelude.{◌≡◌, refl, ◌⊎◌, Bool, true, false, cond, not, ◌&&◌, ◌||◌, ℕ, zero, suc, ◌+◌, ◌≤◌, ◌<◌, eqb}
use Rattle.std.proofs.Common.{sym, ap, ap₂, ◌∙◌, subst, inl, inr, ⊎_elim, zero-le, not-suc-le-zero, le_of_suc-le-suc, eq-or-lt_of_le, le_refl, add-zero, add_comm, add_assoc, add-one, arith, eq-eqb, ne_eqb, eqb-true}
use Rattle.std.proofs.Math.Path.{subst⁻¹}
use Rattle.std.proofs.Math.Arith.{le-zero}
use Rattle.base_laws.specs.Bools.{either, clash, and_both, and_left, and_right, and_fails, and_fails_left, and_fails_right, or-holds, or_neither, or_fails_left, or_fails_right}
use Rattle.base_laws.specs.Definitions.{all_below, any_below, lowest, count_below}

-- what holds below n and at n holds below suc n
below_suc : (P : ℕ → Type 0) (n : ℕ) → ((k : ℕ) → k < n → P k) → P n → (k : ℕ) → k < suc n → P k
below_suc P n h here k l = ⊎_elim (λ e. subst⁻¹ P e here) (λ m. h k m) (eq-or-lt_of_le (le_of_suc-le-suc l))

below_less : {P : ℕ → Type 0} {n : ℕ} → ((k : ℕ) → k < suc n → P k) → (k : ℕ) → k < n → P k
below_less h k l = h k (omega arith)

-- ---- all_below

pub all_none : (f : ℕ → Bool) → all_below 0 f ≡ true
unfolding all_below
all_none f = refl

pub all_step : (n : ℕ) (f : ℕ → Bool) → all_below (n + 1) f ≡ (all_below n f && f n)
unfolding all_below
all_step n f = ap (λ (k : ℕ). all_below k f) (add-one n)

pub all_at : (n : ℕ) (f : ℕ → Bool) → all_below n f ≡ true → (k : ℕ) → k < n → f k ≡ true
unfolding all_below
all_at zero f h k l = absurd (not-suc-le-zero l)
all_at (suc n) f h k l =
    below_suc (λ j. f j ≡ true) n (all_at n f (and_left (all_below n f) (f n) h)) (and_right (all_below n f) (f n) h) k l

pub all_of : (n : ℕ) (f : ℕ → Bool) → ((k : ℕ) → k < n → f k ≡ true) → all_below n f ≡ true
unfolding all_below
all_of zero f h = refl
all_of (suc n) f h = and_both (all_of n f (below_less h)) (h n (le_refl (suc n)))

pub all_counter : (n : ℕ) (f : ℕ → Bool) → all_below n f ≡ false → (k : ℕ) × (k < n) × (f k ≡ false)
unfolding all_below
all_counter zero f h = clash refl h
all_counter (suc n) f h = go (all_counter n f) (and_fails (all_below n f) (f n) h)
  where
    go : (all_below n f ≡ false → (k : ℕ) × (k < n) × (f k ≡ false)) → (all_below n f ≡ false) ⊎ (f n ≡ false)
        → (k : ℕ) × (k < suc n) × (f k ≡ false)
    go rest (inl e) = let w = rest e in (w.0, omega (arith, w.1), w.2)
    go rest (inr e) = (n, le_refl (suc n), e)

pub all_cong : (n : ℕ) (f g : ℕ → Bool) → ((k : ℕ) → k < n → f k ≡ g k) → all_below n f ≡ all_below n g
unfolding all_below
all_cong zero f g h = refl
all_cong (suc n) f g h = ap₂ ◌&&◌ (all_cong n f g (below_less h)) (h n (le_refl (suc n)))

-- ---- anyBelow

pub any_none : (f : ℕ → Bool) → any_below 0 f ≡ false
unfolding any_below
any_none f = refl

pub any_suc : (n : ℕ) (f : ℕ → Bool) → any_below (suc n) f ≡ (any_below n f || f n)
unfolding any_below
any_suc n f = refl

pub any_step : (n : ℕ) (f : ℕ → Bool) → any_below (n + 1) f ≡ (any_below n f || f n)
unfolding any_below
any_step n f = ap (λ (k : ℕ). any_below k f) (add-one n)

-- a turn of a loop in which f failed
pub any_more : (n : ℕ) (f : ℕ → Bool) → any_below n f ≡ false → f n ≡ false → any_below (n + 1) f ≡ false
any_more n f h p = any_step n f ∙ or_neither h p

-- no number below n
pub any_fails : (n : ℕ) (f : ℕ → Bool) → any_below n f ≡ false → (k : ℕ) → k < n → f k ≡ false
unfolding any_below
any_fails zero f h k l = absurd (not-suc-le-zero l)
any_fails (suc n) f h k l =
    below_suc (λ j. f j ≡ false) n (any_fails n f (or_fails_left (any_below n f) (f n) h)) (or_fails_right (any_below n f) (f n) h) k l

pub any_none_of : (n : ℕ) (f : ℕ → Bool) → ((k : ℕ) → k < n → f k ≡ false) → any_below n f ≡ false
unfolding any_below
any_none_of zero f h = refl
any_none_of (suc n) f h = or_neither (any_none_of n f (below_less h)) (h n (le_refl (suc n)))

-- none below a bound, none below a lower one
pub any_fewer : (m n : ℕ) (f : ℕ → Bool) → m ≤ n → any_below n f ≡ false → any_below m f ≡ false
any_fewer m n f l h = any_none_of m f (λ k j. any_fails n f h k (omega arith))

-- one number of which f holds
pub any_at : (n : ℕ) (f : ℕ → Bool) (k : ℕ) → k < n → f k ≡ true → any_below n f ≡ true
any_at n f k l p = ⊎_elim (λ h. h) (λ h. clash p (any_fails n f h k l)) (either (any_below n f))

pub any_witness : (n : ℕ) (f : ℕ → Bool) → any_below n f ≡ true → (k : ℕ) × (k < n) × (f k ≡ true)
unfolding any_below
any_witness zero f h = clash h refl
any_witness (suc n) f h = go (any_witness n f) (or-holds (any_below n f) (f n) h)
  where
    go : (any_below n f ≡ true → (k : ℕ) × (k < n) × (f k ≡ true)) → (any_below n f ≡ true) ⊎ (f n ≡ true)
        → (k : ℕ) × (k < suc n) × (f k ≡ true)
    go rest (inl e) = let w = rest e in (w.0, omega (arith, w.1), w.2)
    go rest (inr e) = (n, le_refl (suc n), e)

pub any_cong : (n : ℕ) (f g : ℕ → Bool) → ((k : ℕ) → k < n → f k ≡ g k) → any_below n f ≡ any_below n g
unfolding any_below
any_cong zero f g h = refl
any_cong (suc n) f g h = ap₂ ◌||◌ (any_cong n f g (below_less h)) (h n (le_refl (suc n)))

-- f implies g below n
pub any_mono : (n : ℕ) (f g : ℕ → Bool) → ((k : ℕ) → k < n → f k ≡ true → g k ≡ true) → any_below n f ≡ true → any_below n g ≡ true
any_mono n f g i h = let w = any_witness n f h in any_at n g w.0 w.1 (i w.0 w.1 w.2)

-- ---- lowest

-- there is none
pub lowest_none : (n : ℕ) (f : ℕ → Bool) → any_below n f ≡ false → lowest n f ≡ n
unfolding lowest any_below
lowest_none zero f h = refl
lowest_none (suc n) f h = simp (or_fails_left (any_below n f) (f n) h, or_fails_right (any_below n f) (f n) h)

-- it holds at k and fails below: k is the lowest
pub lowest_unique : (n : ℕ) (f : ℕ → Bool) (k : ℕ) → k < n → f k ≡ true → ((j : ℕ) → j < k → f j ≡ false) → lowest n f ≡ k
unfolding lowest
lowest_unique zero f k l p q = absurd (not-suc-le-zero l)
lowest_unique (suc n) f k l p q = go (lowest_unique n f k) (eq-or-lt_of_le (le_of_suc-le-suc l))
  where
    go : (k < n → f k ≡ true → ((j : ℕ) → j < k → f j ≡ false) → lowest n f ≡ k) → (k ≡ n) ⊎ (k < n)
        → cond (any_below n f) (lowest n f) (cond (f n) n (suc n)) ≡ k
    go rest (inl e) =
        rw (any_none_of n f (λ j m. q j (subst⁻¹ (λ (x : ℕ). j < x) e m)), subst (λ (x : ℕ). f x ≡ true) e p) (sym e)
    go rest (inr m) = rw (any_at n f k m p) (rest m p q)

-- some number holds: the lowest does, is below the bound, and no lower one does
pub lowest-holds : (n : ℕ) (f : ℕ → Bool) → any_below n f ≡ true → f (lowest n f) ≡ true
unfolding lowest any_below
lowest-holds zero f h = clash h refl
lowest-holds (suc n) f h = go (lowest-holds n f) (either (any_below n f))
  where
    go : (any_below n f ≡ true → f (lowest n f) ≡ true) → (any_below n f ≡ true) ⊎ (any_below n f ≡ false)
        → f (cond (any_below n f) (lowest n f) (cond (f n) n (suc n))) ≡ true
    go rest (inl e) = rw e (rest e)
    go rest (inr e) = let p : f n ≡ true = rw e at h in rw (e, p) p

pub lowest_below : (n : ℕ) (f : ℕ → Bool) → any_below n f ≡ true → lowest n f < n
unfolding lowest any_below
lowest_below zero f h = clash h refl
lowest_below (suc n) f h = go (lowest_below n f) (either (any_below n f))
  where
    go : (any_below n f ≡ true → lowest n f < n) → (any_below n f ≡ true) ⊎ (any_below n f ≡ false)
        → cond (any_below n f) (lowest n f) (cond (f n) n (suc n)) < suc n
    go rest (inl e) = rw e (omega (arith, rest e))
    go rest (inr e) = let p : f n ≡ true = rw e at h in rw (e, p) (le_refl (suc n))

pub lowest_first : (n : ℕ) (f : ℕ → Bool) (k : ℕ) → k < lowest n f → f k ≡ false
unfolding lowest
lowest_first zero f k l = absurd (not-suc-le-zero l)
lowest_first (suc n) f k l = go (lowest_first n f k) (either (any_below n f)) (either (f n))
  where
    go : (k < lowest n f → f k ≡ false) → (any_below n f ≡ true) ⊎ (any_below n f ≡ false) → (f n ≡ true) ⊎ (f n ≡ false) → f k ≡ false
    go rest (inl e) p = rest (rw e at l)
    go rest (inr e) (inl p) = any_fails n f e k (rw (e, p) at l)
    go rest (inr e) (inr p) = below_suc (λ j. f j ≡ false) n (any_fails n f e) p k (rw (e, p) at l)

pub lowest_cong : (n : ℕ) (f g : ℕ → Bool) → ((k : ℕ) → k < n → f k ≡ g k) → lowest n f ≡ lowest n g
unfolding lowest
lowest_cong zero f g h = refl
lowest_cong (suc n) f g h =
    rw (any_cong n f g (below_less h), lowest_cong n f g (below_less h), h n (le_refl (suc n)))

-- ---- one test, counted as 0 or 1

bit_le : (a : Bool) → cond a 1 0 ≤ 1
bit_le true = le_refl 1
bit_le false = zero-le

bit_mono : (a b : Bool) → (a ≡ true → b ≡ true) → cond a 1 0 ≤ cond b 1 0
bit_mono true true h = le_refl 1
bit_mono true false h = clash (h refl) refl
bit_mono false b h = zero-le

bit_or_and : (a b : Bool) → cond (a || b) 1 0 + cond (a && b) 1 0 ≡ cond a 1 0 + cond b 1 0
bit_or_and true true = refl
bit_or_and true false = refl
bit_or_and false true = refl
bit_or_and false false = refl

bit_split : (a b : Bool) → cond (a && b) 1 0 + cond (a && not b) 1 0 ≡ cond a 1 0
bit_split true true = refl
bit_split true false = refl
bit_split false true = refl
bit_split false false = refl

bit_meet : (a b v : Bool) → cond (a && v) 1 0 + cond (b && v) 1 0 ≤ cond v 1 0 + cond (a && b && v) 1 0
bit_meet true true true = le_refl 2
bit_meet true true false = le_refl 0
bit_meet true false true = le_refl 1
bit_meet true false false = le_refl 0
bit_meet false true true = le_refl 1
bit_meet false true false = le_refl 0
bit_meet false false true = zero-le
bit_meet false false false = le_refl 0

-- ---- countBelow

pub count_suc : (n : ℕ) (f : ℕ → Bool) → count_below (suc n) f ≡ count_below n f + cond (f n) 1 0
unfolding count_below
count_suc n f = refl

pub count_step : (n : ℕ) (f : ℕ → Bool) → count_below (n + 1) f ≡ count_below n f + cond (f n) 1 0
unfolding count_below
count_step n f = ap (λ (k : ℕ). count_below k f) (add-one n)

-- a turn of a loop that counts
pub count_hit : (n : ℕ) (f : ℕ → Bool) → f n ≡ true → count_below (n + 1) f ≡ count_below n f + 1
count_hit n f p = rw (count_step n f, p)

pub count_miss : (n : ℕ) (f : ℕ → Bool) → f n ≡ false → count_below (n + 1) f ≡ count_below n f
count_miss n f p = count_step n f ∙ ap (λ (b : Bool). count_below n f + cond b 1 0) p ∙ add-zero (count_below n f)

pub count_zero : (f : ℕ → Bool) → count_below 0 f ≡ 0
unfolding count_below
count_zero f = refl

-- the lowest number apart
pub count_front : (n : ℕ) (f : ℕ → Bool) → count_below (suc n) f ≡ cond (f 0) 1 0 + count_below n (λ k. f (suc k))
unfolding count_below
count_front zero f = add_comm 0 (cond (f 0) 1 0)
count_front (suc n) f =
    ap (λ (x : ℕ). x + cond (f (suc n)) 1 0) (count_front n f)
    ∙ add_assoc (cond (f 0) 1 0) (count_below n (λ k. f (suc k))) (cond (f (suc n)) 1 0)

pub count_cong : (n : ℕ) (f g : ℕ → Bool) → ((k : ℕ) → k < n → f k ≡ g k) → count_below n f ≡ count_below n g
unfolding count_below
count_cong zero f g h = refl
count_cong (suc n) f g h =
    ap₂ (λ (x : ℕ) (b : Bool). x + cond b 1 0) (count_cong n f g (below_less h)) (h n (le_refl (suc n)))

pub count_le : (n : ℕ) (f : ℕ → Bool) → count_below n f ≤ n
unfolding count_below
count_le zero f = le_refl 0
count_le (suc n) f = omega (arith, count_le n f, bit_le (f n))

-- f implies g below n
pub count_mono : (n : ℕ) (f g : ℕ → Bool) → ((k : ℕ) → k < n → f k ≡ true → g k ≡ true) → count_below n f ≤ count_below n g
unfolding count_below
count_mono zero f g h = le_refl 0
count_mono (suc n) f g h =
    omega (arith, count_mono n f g (below_less h), bit_mono (f n) (g n) (h n (le_refl (suc n))))

-- below a higher bound there are no fewer
pub count_longer : (m n : ℕ) (f : ℕ → Bool) → m ≤ n → count_below m f ≤ count_below n f
unfolding count_below
count_longer m zero f l = rw (le-zero l) (le_refl 0)
count_longer m (suc n) f l = go (count_longer m n f) (eq-or-lt_of_le l)
  where
    go : (m ≤ n → count_below m f ≤ count_below n f) → (m ≡ suc n) ⊎ (m < suc n)
        → count_below m f ≤ count_below n f + cond (f n) 1 0
    go rest (inl e) = rw e (le_refl (count_below n f + cond (f n) 1 0))
    go rest (inr k) = omega (arith, rest (le_of_suc-le-suc k))

pub count_none : (n : ℕ) (f : ℕ → Bool) → any_below n f ≡ false → count_below n f ≡ 0
unfolding count_below
count_none zero f h = refl
count_none (suc n) f h =
    rw (any_fails (suc n) f h n (le_refl (suc n)))
    (omega (arith, count_none n f (any_none_of n f (below_less (any_fails (suc n) f h)))))

-- a count above 0 has a number that holds, and the other way
pub count_some : (n : ℕ) (f : ℕ → Bool) → 0 < count_below n f → (k : ℕ) × (k < n) × (f k ≡ true)
count_some n f l =
    ⊎_elim (λ h. any_witness n f h) (λ h. absurd (let e : count_below n f ≡ 0 = count_none n f h in omega arith)) (either (any_below n f))

pub count_pos : (n : ℕ) (f : ℕ → Bool) (k : ℕ) → k < n → f k ≡ true → 0 < count_below n f
count_pos n f k l p =
    let one : count_below (k + 1) f ≡ count_below k f + 1 = count_hit k f p in
    omega (arith, count_longer (k + 1) n f (omega arith))

-- two tests: what either holds of and what both hold of
pub count_or_and : (n : ℕ) (f g : ℕ → Bool)
    → count_below n (λ k. f k || g k) + count_below n (λ k. f k && g k) ≡ count_below n f + count_below n g
unfolding count_below
count_or_and zero f g = refl
count_or_and (suc n) f g = omega (arith, count_or_and n f g, bit_or_and (f n) (g n))

-- a test and another that splits it
pub count_split : (n : ℕ) (f g : ℕ → Bool)
    → count_below n (λ k. f k && g k) + count_below n (λ k. f k && not (g k)) ≡ count_below n f
unfolding count_below
count_split zero f g = refl
count_split (suc n) f g = omega (arith, count_split n f g, bit_split (f n) (g n))

-- one number and no other
pub count_single : (n k : ℕ) → k < n → count_below n (eqb k) ≡ 1
unfolding count_below
count_single zero k l = absurd (not-suc-le-zero l)
count_single (suc n) k l = go (count_single n k) (eq-or-lt_of_le (le_of_suc-le-suc l))
  where
    go : (k < n → count_below n (eqb k) ≡ 1) → (k ≡ n) ⊎ (k < n) → count_below n (eqb k) + cond (eqb k n) 1 0 ≡ 1
    go rest (inl e) =
        rw (eq-eqb k n e, count_none n (eqb k) (any_none_of n (eqb k) (λ j m. ne_eqb k j (λ q. omega arith))))
    go rest (inr m) = rw (ne_eqb k n (λ q. omega arith), rest m)

-- a number of which f fails, added
pub count_with : (n : ℕ) (f : ℕ → Bool) (k : ℕ) → k < n → f k ≡ false → count_below n (λ j. f j || eqb k j) ≡ count_below n f + 1
count_with n f k l p =
    let none : count_below n (λ j. f j && eqb k j) ≡ 0 =
    count_none n (λ j. f j && eqb k j) (any_none_of n (λ j. f j && eqb k j) (λ j m. miss f k j p)) in
    omega (arith, count_or_and n f (eqb k), count_single n k l)
  where
    miss : (f : ℕ → Bool) (k j : ℕ) → f k ≡ false → (f j && eqb k j) ≡ false
    miss f k j p =
        ⊎_elim (λ e. and_fails_left (eqb k j) (subst (λ (x : ℕ). f x ≡ false) (eqb-true k j e) p)) (λ e. and_fails_right (f j) e) (either (eqb k j))

-- a number of which f holds, taken out
pub count_without : (n : ℕ) (f : ℕ → Bool) (k : ℕ) → k < n → f k ≡ true → count_below n (λ j. f j && not (eqb k j)) + 1 ≡ count_below n f
count_without n f k l p =
    let one : count_below n (λ j. f j && eqb k j) ≡ count_below n (eqb k) = count_cong n (λ j. f j && eqb k j) (eqb k) (λ j m. hit f k j p) in
    omega (arith, count_split n f (eqb k), count_single n k l)
  where
    hit : (f : ℕ → Bool) (k j : ℕ) → f k ≡ true → (f j && eqb k j) ≡ eqb k j
    hit f k j p =
        ⊎_elim (λ e. rw (e, subst (λ (x : ℕ). f x ≡ true) (eqb-true k j e) p)) (λ e. and_fails_right (f j) e ∙ sym e) (either (eqb k j))

-- past a bound f fails: a higher bound changes nothing
pub count_past : (m n : ℕ) (f : ℕ → Bool) → m ≤ n → ((k : ℕ) → m ≤ k → f k ≡ false) → count_below n f ≡ count_below m f
unfolding count_below
count_past m zero f l h = ap (λ (k : ℕ). count_below k f) (sym (le-zero l))
count_past m (suc n) f l h = go (λ k. count_past m n f k h) (eq-or-lt_of_le l)
  where
    go : (m ≤ n → count_below n f ≡ count_below m f) → (m ≡ suc n) ⊎ (m < suc n) → count_below n f + cond (f n) 1 0 ≡ count_below m f
    go rest (inl e) = ap (λ (k : ℕ). count_below k f) (sym e)
    go rest (inr k) = rw (h n (le_of_suc-le-suc k)) (omega (arith, rest (le_of_suc-le-suc k)))

-- within h, f and g together hold of more than h does: all three meet
pub count_meet : (n : ℕ) (f g h : ℕ → Bool)
    → count_below n (λ k. f k && h k) + count_below n (λ k. g k && h k) ≤ count_below n h + count_below n (λ k. f k && g k && h k)
unfolding count_below
count_meet zero f g h = le_refl 0
count_meet (suc n) f g h = omega (arith, count_meet n f g h, bit_meet (f n) (g n) (h n))
