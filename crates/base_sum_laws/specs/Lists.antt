-- Laws of ascending lists of numbers and their dictionary order: congruence, that a list tells its numbers, where lists that part at a
-- number stand in the order, and that the order is strict and total.
use Rattle.std.specs.Prelude.{◌≡◌, refl, Bool, true, cond, ◌&&◌, List, [], ◌∷◌, ◌++◌, ◌⊎◌, ℕ, zero, suc, ◌+◌, ◌≤◌, ◌<◌, eqb, ltb}
use Rattle.std.proofs.Common.{sym, ap, ◌∙◌, inl, inr, ⊎_elim, arith, eqb-true, eq-eqb, lt-ltb, ltb-true}
use Rattle.std.proofs.lemmas.Bool.{false≢true}
use Rattle.base_laws.specs.Bools.{or-holds, or_left, or_right, and_both, and_left, and_right, lt_or_le}
use Rattle.base_sum_laws.specs.Definitions.{list_from, list_before}

-- ---- laws of ascending lists

pub list_cong : (k a : ℕ) (f g : ℕ → Bool) → ((n : ℕ) → a ≤ n → n < a + k → f n ≡ g n) → list_from a k f ≡ list_from a k g
unfolding list_from
list_cong zero a f g h = refl
list_cong (suc k) a f g h =
    rw (h a (omega arith) (omega arith))
    (ap (λ (l : List ℕ). cond (g a) (a ∷ l) l) (list_cong k (suc a) f g (λ n p q. h n (omega arith) (omega arith))))

-- ---- laws of the order

-- a proper prefix is the smaller
pub before_longer : (l : List ℕ) (x : ℕ) (xs : List ℕ) → list_before l (l ++ (x ∷ xs)) ≡ true
unfolding list_before
before_longer [] x xs = refl
before_longer (y ∷ ys) x xs = or_right (ltb y y) (and_both (eq-eqb y y refl) (before_longer ys x xs))

pub before_self : (l : List ℕ) → list_before l l ≡ true → ⊥
unfolding list_before
before_self [] e = false≢true e
before_self (x ∷ xs) e =
    ⊎_elim (λ h. let z = ltb-true x x h in omega arith) (λ h. before_self xs (and_right (eqb x x) (list_before xs xs) h)) (or-holds (ltb x x) (eqb x x && list_before xs xs) e)

pub before_both : (l m : List ℕ) → list_before l m ≡ true → list_before m l ≡ true → ⊥
unfolding list_before
before_both [] [] p q = false≢true p
before_both [] (y ∷ ys) p q = false≢true q
before_both (x ∷ xs) [] p q = false≢true p
before_both (x ∷ xs) (y ∷ ys) p q =
    ⊎_elim
    (λ h. let i = ltb-true x y h in
    ⊎_elim (λ k. let j = ltb-true y x k in omega arith) (λ k. let j = eqb-true y x (and_left (eqb y x) (list_before ys xs) k) in omega arith)
    (or-holds (ltb y x) (eqb y x && list_before ys xs) q))
    (λ h. let i = eqb-true x y (and_left (eqb x y) (list_before xs ys) h) in
    ⊎_elim (λ k. let j = ltb-true y x k in omega arith)
    (λ k. before_both xs ys (and_right (eqb x y) (list_before xs ys) h) (and_right (eqb y x) (list_before ys xs) k))
    (or-holds (ltb y x) (eqb y x && list_before ys xs) q))
    (or-holds (ltb x y) (eqb x y && list_before xs ys) p)

-- of two lists that differ one comes before the other
pub before_either : (l m : List ℕ) → (l ≡ m) ⊎ ((list_before l m ≡ true) ⊎ (list_before m l ≡ true))
unfolding list_before
before_either [] [] = inl refl
before_either [] (y ∷ ys) = inr (inl refl)
before_either (x ∷ xs) [] = inr (inr refl)
before_either (x ∷ xs) (y ∷ ys) =
    ⊎_elim (λ h. inr (inl (or_left (eqb x y && list_before xs ys) (lt-ltb x y h))))
    (λ h.
    ⊎_elim (λ k. inr (inr (or_left (eqb y x && list_before ys xs) (lt-ltb y x k))))
    (λ k. let e : x ≡ y = omega arith in
    ⊎_elim (λ d. inl (ap (λ (i : ℕ). i ∷ xs) e ∙ ap (λ (t : List ℕ). y ∷ t) d))
    (λ d. inr (⊎_elim
    (λ b. inl (or_right (ltb x y) (and_both (eq-eqb x y e) b)))
    (λ b. inr (or_right (ltb y x) (and_both (eq-eqb y x (sym e)) b))) d))
    (before_either xs ys))
    (lt_or_le y x))
    (lt_or_le x y)

pub before_through : (l m n : List ℕ) → list_before l m ≡ true → list_before m n ≡ true → list_before l n ≡ true
unfolding list_before
before_through [] [] n p q = absurd (false≢true p)
before_through [] (y ∷ ys) [] p q = absurd (false≢true q)
before_through [] (y ∷ ys) (z ∷ zs) p q = refl
before_through (x ∷ xs) [] n p q = absurd (false≢true p)
before_through (x ∷ xs) (y ∷ ys) [] p q = absurd (false≢true q)
before_through (x ∷ xs) (y ∷ ys) (z ∷ zs) p q =
    ⊎_elim
    (λ h. let i = ltb-true x y h in
    ⊎_elim (λ k. let j = ltb-true y z k in or_left (eqb x z && list_before xs zs) (lt-ltb x z (omega arith)))
    (λ k. let j = eqb-true y z (and_left (eqb y z) (list_before ys zs) k) in or_left (eqb x z && list_before xs zs) (lt-ltb x z (omega arith)))
    (or-holds (ltb y z) (eqb y z && list_before ys zs) q))
    (λ h. let i = eqb-true x y (and_left (eqb x y) (list_before xs ys) h) in
    ⊎_elim (λ k. let j = ltb-true y z k in or_left (eqb x z && list_before xs zs) (lt-ltb x z (omega arith)))
    (λ k. let j = eqb-true y z (and_left (eqb y z) (list_before ys zs) k) in
    or_right (ltb x z) (and_both (eq-eqb x z (i ∙ j)) (before_through xs ys zs (and_right (eqb x y) (list_before xs ys) h) (and_right (eqb y z) (list_before ys zs) k))))
    (or-holds (ltb y z) (eqb y z && list_before ys zs) q))
    (or-holds (ltb x y) (eqb x y && list_before xs ys) p)
