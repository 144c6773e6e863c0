-- Laws of tests: and, or, not, and what the value of a test tells.
use Rattle.std.specs.Prelude.{◌≡◌, refl, ◌⊎◌, ℕ, ◌≤◌, ◌<◌, eqb, ltb, Bool, true, false, cond, not, ◌&&◌, ◌||◌}
use Rattle.std.proofs.Common.{sym, ◌∙◌, inl, inr, ⊎_elim, ltb-true, ltb-false, eqb-true, true≢false}
use Rattle.std.proofs.lemmas.Bool.{eqb-false}

-- a test is true or false
pub either : (b : Bool) → (b ≡ true) ⊎ (b ≡ false)
either true = inl refl
either false = inr refl

-- no test is both
pub clash {ℓ} : {A : Type ℓ} {b : Bool} → b ≡ true → b ≡ false → A
clash p q = absurd (true≢false (sym p ∙ q))

-- two tests that imply one another are equal
pub same : (a b : Bool) → (a ≡ true → b ≡ true) → (b ≡ true → a ≡ true) → a ≡ b
same true true f g = refl
same true false f g = sym (f refl)
same false true f g = g refl
same false false f g = refl

-- a test that is not true is false
pub no_true : (a : Bool) → (a ≡ true → ⊥) → a ≡ false
no_true true h = absurd (h refl)
no_true false h = refl

pub no_false : (a : Bool) → (a ≡ false → ⊥) → a ≡ true
no_false true h = refl
no_false false h = absurd (h refl)

-- ---- and

pub and_both : {a b : Bool} → a ≡ true → b ≡ true → (a && b) ≡ true
and_both {a} {b} p q = rw (p, q)

pub and_left : (a b : Bool) → (a && b) ≡ true → a ≡ true
and_left true b h = refl
and_left false b h = h

pub and_right : (a b : Bool) → (a && b) ≡ true → b ≡ true
and_right true b h = h
and_right false b h = clash h refl

pub and_fails : (a b : Bool) → (a && b) ≡ false → (a ≡ false) ⊎ (b ≡ false)
and_fails true b h = inr h
and_fails false b h = inl refl

pub and_fails_left : {a : Bool} (b : Bool) → a ≡ false → (a && b) ≡ false
and_fails_left {a} b p = rw p

pub and_fails_right : (a : Bool) {b : Bool} → b ≡ false → (a && b) ≡ false
and_fails_right true p = p
and_fails_right false p = refl

-- a test that holds leaves the rest
pub and_rest : {a : Bool} (b : Bool) → a ≡ true → b ≡ (a && b)
and_rest {a} b h = rw h

-- ---- or

pub or_left : {a : Bool} (b : Bool) → a ≡ true → (a || b) ≡ true
or_left {a} b p = rw p

pub or_right : (a : Bool) {b : Bool} → b ≡ true → (a || b) ≡ true
or_right true p = refl
or_right false p = p

pub or-holds : (a b : Bool) → (a || b) ≡ true → (a ≡ true) ⊎ (b ≡ true)
or-holds true b h = inl refl
or-holds false b h = inr h

pub or_neither : {a b : Bool} → a ≡ false → b ≡ false → (a || b) ≡ false
or_neither {a} {b} p q = rw (p, q)

pub or_fails_left : (a b : Bool) → (a || b) ≡ false → a ≡ false
or_fails_left true b h = h
or_fails_left false b h = refl

pub or_fails_right : (a b : Bool) → (a || b) ≡ false → b ≡ false
or_fails_right true b h = clash refl h
or_fails_right false b h = h

-- ---- not

pub not_of_false : {a : Bool} → a ≡ false → not a ≡ true
not_of_false {a} p = rw p

pub not_of_true : {a : Bool} → a ≡ true → not a ≡ false
not_of_true {a} p = rw p

pub of_not_true : (a : Bool) → not a ≡ true → a ≡ false
of_not_true true h = sym h
of_not_true false h = refl

pub of_not_false : (a : Bool) → not a ≡ false → a ≡ true
of_not_false true h = refl
of_not_false false h = sym h

-- ---- what is asked under a condition: where it fails nothing, where it holds all

pub unasked : {a : Bool} (b : Bool) → a ≡ false → true ≡ (not a || b)
unasked {a} b h = rw h

pub asked : {a : Bool} (b : Bool) → a ≡ true → b ≡ (not a || b)
asked {a} b h = rw h

-- ---- a choice

-- what holds of either choice holds of the chosen one
pub cond_of {ℓ κ} : {A : Type ℓ} (P : A → Type κ) (b : Bool) {y z : A} → (b ≡ true → P y) → (b ≡ false → P z) → P (cond b y z)
cond_of P true f g = f refl
cond_of P false f g = g refl

-- ---- two numbers: one case or the other

pub lt_or_le : (a b : ℕ) → (a < b) ⊎ (b ≤ a)
lt_or_le a b = ⊎_elim (λ e. inl (ltb-true a b e)) (λ e. inr (ltb-false a b e)) (either (ltb a b))

pub eq_or_ne : (a b : ℕ) → (a ≡ b) ⊎ (a ≡ b → ⊥)
eq_or_ne a b = ⊎_elim (λ e. inl (eqb-true a b e)) (λ e. inr (eqb-false a b e)) (either (eqb a b))
