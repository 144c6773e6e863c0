-- A pass over the records: the first one that fails a test, if one does.
use Rattle.std.specs.Prelude.{ℕ, ◌<◌, Bool, true, false, not, ◌≡◌, Option, Some, None}
use Rattle.std.proofs.Common.{ap, sym, ◌∙◌, ⊎_elim}
use Rattle.base_laws.specs.Bools.{clash, lt_or_le, not_of_true, not_of_false, of_not_true, of_not_false}
use Rattle.base_laws.specs.Definitions.{all_below}
use Rattle.base_laws.specs.Options.{some_if, some_is, none_is, some_holds, some_value, none_fails}
use Rattle.base_laws.specs.Loops.{first_bad}
use Rattle.base_laws.proofs.Below.{all_fails}
use Rattle.base_laws.proofs.Loops.{bad_at, bad-holds}

-- the first of n records that fails the test
unfoldable pub failing : ℕ → (ℕ → Bool) → Option ℕ
failing n f = some_if (not (all_below n f)) (first_bad n f)

module _ (n : ℕ) (f : ℕ → Bool) where
  -- ways out of a pass: at record k, and at the end
  pub failing_at : (k : ℕ) → k < n → all_below k f ≡ true → f k ≡ false → Some k ≡ failing n f
  unfolding failing
  failing_at k l h p = ap Some (sym (bad_at n f k l h p)) ∙ some_is _ _ (not_of_false (all_fails n f k l p))

  pub failing_nowhere : all_below n f ≡ true → None ≡ failing n f
  unfolding failing
  failing_nowhere h = none_is _ _ (not_of_true h)

  -- what its result tells
  pub first_failing : (k : ℕ) → Some k ≡ failing n f → (k ≡ first_bad n f) × (all_below n f ≡ false)
  unfolding failing
  first_failing k e = (some_value _ _ k e, of_not_true (all_below n f) (some_holds _ _ k e))

  pub failing_inside : (k : ℕ) → Some k ≡ failing n f → k < n
  failing_inside k e =
      let d = first_failing k e in
      ⊎_elim (λ l. l) (λ l. clash (bad-holds n f k d.0 l) d.1) (lt_or_le k n)

  pub none_failing : None ≡ failing n f → all_below n f ≡ true
  unfolding failing
  none_failing e = of_not_false (all_below n f) (none_fails _ (first_bad n f) e)
