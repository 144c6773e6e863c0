-- Laws of the order of positions by their two numbers.
use Rattle.std.specs.Prelude.{◌≡◌, refl, ◌⊎◌, Bool, true, ◌&&◌, ◌||◌, ℕ, ◌≤◌, ◌<◌, eqb, ltb, leb}
use Rattle.std.proofs.Common.{◌∙◌, subst, inl, inr, ⊎_elim, arith, eqb-true, eq-eqb, ltb-true, lt-ltb, leb-true, le-leb}
use Rattle.base_laws.specs.Bools.{and_both, and_left, and_right, or_left, or_right, or-holds}
use Rattle.base_laws.specs.Definitions.{pair_not_after}

-- position v k comes before position u j
unfoldable pub pair_before : ℕ → ℕ → ℕ → ℕ → Bool
pair_before v k u j = ltb v u || (eqb v u && ltb k j)

-- ---- what they say of the numbers

pub before_cases : (v k u j : ℕ) → pair_before v k u j ≡ true → (v < u) ⊎ ((v ≡ u) × (k < j))
unfolding pair_before
before_cases v k u j h =
    ⊎_elim (λ e. inl (ltb-true v u e))
    (λ e. inr (eqb-true v u (and_left (eqb v u) (ltb k j) e), ltb-true k j (and_right (eqb v u) (ltb k j) e)))
    (or-holds (ltb v u) (eqb v u && ltb k j) h)

pub not_after_cases : (v k u j : ℕ) → pair_not_after v k u j ≡ true → (v < u) ⊎ ((v ≡ u) × (k ≤ j))
unfolding pair_not_after
not_after_cases v k u j h =
    ⊎_elim (λ e. inl (ltb-true v u e))
    (λ e. inr (eqb-true v u (and_left (eqb v u) (leb k j) e), leb-true k j (and_right (eqb v u) (leb k j) e)))
    (or-holds (ltb v u) (eqb v u && leb k j) h)

-- an earlier view
pub before_view : (v k u j : ℕ) → v < u → pair_before v k u j ≡ true
unfolding pair_before
before_view v k u j l = or_left (eqb v u && ltb k j) (lt-ltb v u l)

pub not_after_view : (v k u j : ℕ) → v < u → pair_not_after v k u j ≡ true
unfolding pair_not_after
not_after_view v k u j l = or_left (eqb v u && leb k j) (lt-ltb v u l)

-- an earlier place of the same view
pub before_place : (v k j : ℕ) → k < j → pair_before v k v j ≡ true
unfolding pair_before
before_place v k j l = or_right (ltb v v) (and_both (eq-eqb v v refl) (lt-ltb k j l))

pub not_after_place : (v k j : ℕ) → k ≤ j → pair_not_after v k v j ≡ true
unfolding pair_not_after
not_after_place v k j l = or_right (ltb v v) (and_both (eq-eqb v v refl) (le-leb k j l))

-- the views are in order
pub not_after_views : (v k u j : ℕ) → pair_not_after v k u j ≡ true → v ≤ u
not_after_views v k u j h = ⊎_elim (λ l. omega arith) (λ e. omega (arith, e.0)) (not_after_cases v k u j h)

-- ---- the laws of an order

pub not_after_refl : (v k : ℕ) → pair_not_after v k v k ≡ true
not_after_refl v k = not_after_place v k k (omega arith)

pub not_after_trans : (v k u j t i : ℕ) → pair_not_after v k u j ≡ true → pair_not_after u j t i ≡ true → pair_not_after v k t i ≡ true
not_after_trans v k u j t i p q = go (not_after_cases v k u j p) (not_after_cases u j t i q)
  where
    go : (v < u) ⊎ ((v ≡ u) × (k ≤ j)) → (u < t) ⊎ ((u ≡ t) × (j ≤ i)) → pair_not_after v k t i ≡ true
    go (inl a) (inl b) = not_after_view v k t i (omega arith)
    go (inl a) (inr b) = not_after_view v k t i (omega (arith, b.0))
    go (inr a) (inl b) = not_after_view v k t i (omega (arith, a.0))
    go (inr a) (inr b) = subst (λ (x : ℕ). pair_not_after v k x i ≡ true) (a.0 ∙ b.0) (not_after_place v k i (omega (arith, a.1, b.1)))

pub not_after_antisym : (v k u j : ℕ) → pair_not_after v k u j ≡ true → pair_not_after u j v k ≡ true → (v ≡ u) × (k ≡ j)
not_after_antisym v k u j p q = go (not_after_cases v k u j p) (not_after_cases u j v k q)
  where
    go : (v < u) ⊎ ((v ≡ u) × (k ≤ j)) → (u < v) ⊎ ((u ≡ v) × (j ≤ k)) → (v ≡ u) × (k ≡ j)
    go (inl a) (inl b) = absurd (omega arith)
    go (inl a) (inr b) = absurd (omega (arith, b.0))
    go (inr a) (inl b) = absurd (omega (arith, a.0))
    go (inr a) (inr b) = (a.0, omega (arith, a.1, b.1))
