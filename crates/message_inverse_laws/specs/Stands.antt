-- The writer refuses contents by the word by which the reader would refuse the message that would stand in the buffer: the same
-- number, at the same record. The records stand one after another there, and the words past them are not looked at.
use Rattle.std.specs.Prelude.{ℕ, suc, ◌≤◌, ◌<◌, Bool, true, false, List, ◌≡◌, refl}
use Rattle.std.proofs.Common.{ap, ◌∙◌}
use Rattle.std.proofs.Math.Path.{sym}
use Rattle.base_laws.specs.Definitions.{all_below}
use Rattle.base_laws.specs.Below.{all_cong, lowest_cong}
use Rattle.base_laws.specs.Loops.{first_bad}
use Rattle.base_ids.specs.declared.Refusal.{Refusal}
use Rattle.base_ids.specs.Definitions.{unless_at}
use Rattle.message_format.specs.Definitions.{first_at, in_order}
use Rattle.message_format.specs.Placing.{bad_below}
use Rattle.message_format.specs.Alike.{SameRecords}

-- two lists with the same condition are the same where its index is and what follows it
pub same_at : (p q : Bool) (k i j : ℕ) (a b : Refusal) → p ≡ q → (q ≡ false → i ≡ j) → (q ≡ true → a ≡ b) → unless_at p k i a ≡ unless_at q k j b
unfolding unless_at
same_at p true k i j a b e h g = rw e (g refl)
same_at p false k i j a b e h g = rw (e, h refl)

-- records b, told in order, and records c that are alike, told where `at` says, which is in order as far as they go
module _ (at : ℕ → ℕ) (b c : List ℕ) (n : ℕ) (alike : SameRecords b c n) (straight : (j : ℕ) → j ≤ n → at j ≡ j) where
  pub same_first : (f g : ℕ → Bool) (k : ℕ) (x y : Refusal) → ((j : ℕ) → j < n → f j ≡ g j) → (all_below n f ≡ true → x ≡ y)
      → first_at at n g k y ≡ first_at in_order n f k x
  same_first f g k x y e rest =
      same_at (all_below n g) (all_below n f) k _ _ y x (sym (all_cong n f g e))
      (λ h. ap (λ (j : ℕ). at (suc j)) (sym (first_same f g e)) ∙ straight (suc (first_bad n f)) (bad_below n f h))
      (λ h. sym (rest h))
    where
      first_same : (f g : ℕ → Bool) → ((j : ℕ) → j < n → f j ≡ g j) → first_bad n f ≡ first_bad n g
      first_same f g e = lowest_cong n _ _ (λ j l. rw (e j l))
