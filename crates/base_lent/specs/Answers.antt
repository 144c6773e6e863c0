-- What a call answers and what it leaves, as one record.
use Rattle.std.specs.Prelude.{ℕ, true, false, List, ◌≡◌}
use Rattle.base_ids.specs.declared.Refusal.{Refusal}
use Rattle.base_ids.specs.Definitions.{accepted}
use Rattle.base_lent.specs.Definitions.{answer_word, bytes_left}

-- a call's answer and the lent bytes afterwards
pub record Told (r : Refusal) (given : ℕ) (made bytes : List ℕ) (answer : ℕ) (left : List ℕ) : Type 0 where
  pub answers : answer ≡ answer_word r given
  pub leaves : left ≡ bytes_left r made bytes

-- the refusal s is r, found otherwise
module _ (r s : Refusal) (e : s ≡ r) (given : ℕ) (made bytes : List ℕ) where
  pub told_refused : accepted r ≡ false → Told s given made bytes r.code bytes
  unfolding answer_word bytes_left
  told_refused h = record { answers = rw (e, h); leaves = rw (e, h) }

  pub told_accepted : accepted r ≡ true → Told s given made bytes given made
  unfolding answer_word bytes_left
  told_accepted h = record { answers = rw (e, h); leaves = rw (e, h) }
