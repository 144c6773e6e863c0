-- Laws of ascending lists of numbers and their dictionary order: congruence, that a list tells its numbers, where lists that part at a
-- number stand in the order, and that the order is strict and total.
use Rattle.std.specs.Prelude.{◌≡◌, refl, Bool, true, false, cond, ◌||◌, List, [], ◌∷◌, ℕ, zero, suc, ◌+◌, ◌≤◌, ◌<◌, eqb, ltb}
use Rattle.std.proofs.Common.{sym, ap, ◌∙◌, subst, ⊎_elim, arith, eq-eqb, ne_eqb, lt-ltb}
use Rattle.base_laws.specs.Bools.{clash, or_left, or_right, or_neither, and_both, eq_or_ne}
use Rattle.base_sum_laws.specs.Definitions.{list_from, list_before}

-- n is in the list
unfoldable in_list : ℕ → List ℕ → Bool
in_list n [] = false
in_list n (x ∷ xs) = eqb x n || in_list n xs

list_lacks : (k a n : ℕ) (f : ℕ → Bool) → n < a → in_list n (list_from a k f) ≡ false
unfolding list_from in_list
list_lacks zero a n f l = refl
list_lacks (suc k) a n f l = by (list_lacks k (suc a) n f (omega arith)) (f a)
  where
    by : in_list n (list_from (suc a) k f) ≡ false → (b : Bool) → in_list n (cond b (a ∷ list_from (suc a) k f) (list_from (suc a) k f)) ≡ false
    by rest true = or_neither (ne_eqb a n (λ e. omega arith)) rest
    by rest false = rest

list_has : (k a n : ℕ) (f : ℕ → Bool) → a ≤ n → n < a + k → in_list n (list_from a k f) ≡ f n
unfolding list_from in_list
list_has zero a n f p q = absurd (omega arith)
list_has (suc k) a n f p q = ⊎_elim (λ e. here e (f a) refl) (λ e. past e (list_has k (suc a) n f (omega arith) (omega arith)) (f a)) (eq_or_ne a n)
  where
    here : a ≡ n → (b : Bool) → f a ≡ b → in_list n (cond (f a) (a ∷ list_from (suc a) k f) (list_from (suc a) k f)) ≡ f n
    here e true d = simp d (or_left (in_list n (list_from (suc a) k f)) (eq-eqb a n e) ∙ sym (subst (λ (i : ℕ). f i ≡ true) e d))
    here e false d = simp d (list_lacks k (suc a) n f (omega arith) ∙ sym (subst (λ (i : ℕ). f i ≡ false) e d))

    past : (a ≡ n → ⊥) → in_list n (list_from (suc a) k f) ≡ f n → (b : Bool) → in_list n (cond b (a ∷ list_from (suc a) k f) (list_from (suc a) k f)) ≡ f n
    past e rest true = simp (ne_eqb a n e) rest
    past e rest false = rest

-- the same list says the same of every number
pub list_tells : (k a : ℕ) (f g : ℕ → Bool) → list_from a k f ≡ list_from a k g → (n : ℕ) → a ≤ n → n < a + k → f n ≡ g n
list_tells k a f g e n p q = sym (list_has k a n f p q) ∙ (ap (in_list n) e ∙ list_has k a n g p q)

-- a list whose numbers are all larger than n comes after one that starts with n, if it has a number
later : (k b n m : ℕ) (xs : List ℕ) (g : ℕ → Bool) → n < b → b ≤ m → m < b + k → g m ≡ true → list_before (n ∷ xs) (list_from b k g) ≡ true
unfolding list_from list_before
later zero b n m xs g p q r e = absurd (omega arith)
later (suc k) b n m xs g p q r e = go (later k (suc b) n m xs g (omega arith)) (g b) refl
  where
    go : (suc b ≤ m → m < suc b + k → g m ≡ true → list_before (n ∷ xs) (list_from (suc b) k g) ≡ true) → (d : Bool) → g b ≡ d →
        list_before (n ∷ xs) (cond (g b) (b ∷ list_from (suc b) k g) (list_from (suc b) k g)) ≡ true
    go h true d = simp (d, lt-ltb n b p)
    go h false d =
        simp d
        (⊎_elim (λ s. absurd (clash {A = ⊥} (subst (λ (j : ℕ). g j ≡ true) (sym s) e) d)) (λ s. h (omega arith) (omega arith) e) (eq_or_ne b m))

-- lists stay in order where both get a number in front, or none of them
both_or_none : (a : ℕ) (b : Bool) (l m : List ℕ) → list_before l m ≡ true → list_before (cond b (a ∷ l) l) (cond b (a ∷ m) m) ≡ true
unfolding list_before
both_or_none a true l m i = or_right (ltb a a) (and_both (eq-eqb a a refl) i)
both_or_none a false l m i = i

-- two lists that agree below n, where only the first has n and the second has a larger number
pub list-before : (k a n m : ℕ) (f g : ℕ → Bool) → a ≤ n → n < a + k → ((j : ℕ) → a ≤ j → j < n → f j ≡ g j) →
    f n ≡ true → g n ≡ false → n < m → m < a + k → g m ≡ true → list_before (list_from a k f) (list_from a k g) ≡ true
unfolding list_from list_before
list-before zero a n m f g p q h e d r s u = absurd (omega arith)
list-before (suc k) a n m f g p q h e d r s u =
    ⊎_elim (λ w. here w) (λ w. past w (list-before k (suc a) n m f g (omega arith) (omega arith) (λ j v x. h j (omega arith) x) e d r (omega arith) u)) (eq_or_ne a n)
  where
    here : a ≡ n → list_before (cond (f a) (a ∷ list_from (suc a) k f) (list_from (suc a) k f)) (cond (g a) (a ∷ list_from (suc a) k g) (list_from (suc a) k g)) ≡ true
    here w =
        simp (subst (λ (j : ℕ). f j ≡ true) (sym w) e, subst (λ (j : ℕ). g j ≡ false) (sym w) d)
        (later k (suc a) a m (list_from (suc a) k f) g (omega arith) (omega arith) (omega arith) u)

    past : (a ≡ n → ⊥) → list_before (list_from (suc a) k f) (list_from (suc a) k g) ≡ true →
        list_before (cond (f a) (a ∷ list_from (suc a) k f) (list_from (suc a) k f)) (cond (g a) (a ∷ list_from (suc a) k g) (list_from (suc a) k g)) ≡ true
    past w i = rw (h a (omega arith) (omega arith)) (both_or_none a (g a) (list_from (suc a) k f) (list_from (suc a) k g) i)

-- a list without numbers
list_none : (k a : ℕ) (f : ℕ → Bool) → ((n : ℕ) → a ≤ n → n < a + k → f n ≡ false) → list_from a k f ≡ []
unfolding list_from
list_none zero a f h = refl
list_none (suc k) a f h = rw (h a (omega arith) (omega arith)) (list_none k (suc a) f (λ n p q. h n (omega arith) (omega arith)))

-- two lists that agree below n, where the first ends and the second has n: the first is a proper prefix
pub list_prefix : (k a n : ℕ) (f g : ℕ → Bool) → a ≤ n → n < a + k → ((j : ℕ) → a ≤ j → j < n → f j ≡ g j) →
    ((j : ℕ) → n ≤ j → j < a + k → f j ≡ false) → g n ≡ true → list_before (list_from a k f) (list_from a k g) ≡ true
unfolding list_from list_before
list_prefix zero a n f g p q h e d = absurd (omega arith)
list_prefix (suc k) a n f g p q h e d =
    ⊎_elim (λ w. here w) (λ w. past w (list_prefix k (suc a) n f g (omega arith) (omega arith) (λ j v x. h j (omega arith) x) (λ j v x. e j v (omega arith)) d)) (eq_or_ne a n)
  where
    here : a ≡ n → list_before (cond (f a) (a ∷ list_from (suc a) k f) (list_from (suc a) k f)) (cond (g a) (a ∷ list_from (suc a) k g) (list_from (suc a) k g)) ≡ true
    here w =
        simp (e a (omega arith) (omega arith), subst (λ (j : ℕ). g j ≡ true) (sym w) d, list_none k (suc a) f (λ j v x. e j (omega arith) (omega arith)))

    past : (a ≡ n → ⊥) → list_before (list_from (suc a) k f) (list_from (suc a) k g) ≡ true →
        list_before (cond (f a) (a ∷ list_from (suc a) k f) (list_from (suc a) k f)) (cond (g a) (a ∷ list_from (suc a) k g) (list_from (suc a) k g)) ≡ true
    past w i = rw (h a (omega arith) (omega arith)) (both_or_none a (g a) (list_from (suc a) k f) (list_from (suc a) k g) i)
