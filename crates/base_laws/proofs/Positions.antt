-- Laws of the order of positions by their two numbers.
use Rattle.std.specs.Prelude.{◌≡◌, ◌⊎◌, true, false, not, ℕ, ◌≤◌, ◌<◌}
use Rattle.std.proofs.Common.{sym, ◌∙◌, subst, inl, inr, ⊎_elim, arith}
use Rattle.std.proofs.Math.Arith.{lt_of_le-ne}
use Rattle.base_laws.specs.Bools.{either, clash, same, no_true, not_of_false, of_not_true, lt_or_le, eq_or_ne}
use Rattle.base_laws.specs.Definitions.{pair_not_after}
use Rattle.base_laws.specs.Positions.{pair_before, before_cases, not_after_cases, before_view, not_after_view, before_place, not_after_place}

-- one is before the other, or is not after it the other way
pub before_not_after : (v k u j : ℕ) → pair_before v k u j ≡ not (pair_not_after u j v k)
before_not_after v k u j =
    same (pair_before v k u j) (not (pair_not_after u j v k))
    (λ h. not_of_false (no_true (pair_not_after u j v k) (λ q. go h q)))
    (λ h. back (of_not_true (pair_not_after u j v k) h) (lt_or_le v u) (eq_or_ne v u) (lt_or_le k j))
  where
    go : pair_before v k u j ≡ true → pair_not_after u j v k ≡ true → ⊥
    go h q = meet (before_cases v k u j h) (not_after_cases u j v k q)
      where
        meet : (v < u) ⊎ ((v ≡ u) × (k < j)) → (u < v) ⊎ ((u ≡ v) × (j ≤ k)) → ⊥
        meet (inl a) (inl b) = omega arith
        meet (inl a) (inr b) = omega (arith, b.0)
        meet (inr a) (inl b) = omega (arith, a.0)
        meet (inr a) (inr b) = omega (arith, a.1, b.1)

    back : pair_not_after u j v k ≡ false → (v < u) ⊎ (u ≤ v) → (v ≡ u) ⊎ (v ≡ u → ⊥) → (k < j) ⊎ (j ≤ k) → pair_before v k u j ≡ true
    back h (inl l) e m = before_view v k u j l
    back h (inr l) (inl e) (inl m) = subst (λ (x : ℕ). pair_before v k x j ≡ true) e (before_place v k j m)
    back h (inr l) (inl e) (inr m) = clash (subst (λ (x : ℕ). pair_not_after x j v k ≡ true) e (not_after_place v j k m)) h
    back h (inr l) (inr n) m = clash (not_after_view u j v k (lt_of_le-ne l (λ e. n (sym e)))) h

pub before_weak : (v k u j : ℕ) → pair_before v k u j ≡ true → pair_not_after v k u j ≡ true
before_weak v k u j h =
    ⊎_elim (λ l. not_after_view v k u j l)
    (λ e. subst (λ (x : ℕ). pair_not_after v k x j ≡ true) e.0 (not_after_place v k j (omega (arith, e.1)))) (before_cases v k u j h)

pub not_after_total : (v k u j : ℕ) → (pair_not_after v k u j ≡ true) ⊎ (pair_not_after u j v k ≡ true)
not_after_total v k u j =
    ⊎_elim (λ h. inl h) (λ h. inr (before_weak u j v k (before_not_after u j v k ∙ not_of_false h))) (either (pair_not_after v k u j))
