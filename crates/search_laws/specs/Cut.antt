-- What owners that decide the pairs before t say of a placement that agrees with them.
use Rattle.std.specs.Prelude.{◌≡◌, refl, ℕ, ◌+◌, ◌*◌, ◌≤◌, ◌<◌}
use Rattle.std.proofs.Common.{sym, ◌∙◌, ⊎_elim, arith}
use Rattle.base_laws.specs.Bools.{lt_or_le, clash}
use Rattle.search_laws.specs.Order.{Agree, Begun, pair_takes, takes_pair}

module _ {o y : ℕ → ℕ} {t : ℕ} (b : Begun o t) (a : Agree y o t) where
  -- a node that has an owner keeps it
  pub keeps : (n : ℕ) → n < 32 → o n < 16 → y n ≡ o n
  keeps n l h =
      ⊎_elim
      (λ p. takes_pair y n (o n) l (a.same (o n * 32 + n) p ∙ pair_takes o n (o n) l refl))
      (λ p. clash (pair_takes o n (o n) l refl) (b.rest (o n * 32 + n) p (omega arith)))
      (lt_or_le (o n * 32 + n) t)

  -- the pairs before t are decided
  pub decided : (n : ℕ) → n < 32 → y n < 16 → y n * 32 + n < t → o n ≡ y n
  decided n l h p = takes_pair o n (y n) l (sym (a.same (y n * 32 + n) p) ∙ pair_takes y n (y n) l refl)

  -- a pair that the placement takes, of a node without an owner, is open
  pub open_pair : (n : ℕ) → n < 32 → y n < 16 → 16 ≤ o n → t ≤ y n * 32 + n
  open_pair n l p q = ⊎_elim (λ h. absurd (omega (arith, decided n l p h))) (λ h. h) (lt_or_le (y n * 32 + n) t)
