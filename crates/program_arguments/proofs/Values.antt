-- Laws over the values that definitions have, where the code gives a Result or an Option.
use Rattle.std.specs.Prelude.{ℕ, ◌<◌, ◌≤◌, true, false, List, [], ◌∷◌, ◌≡◌, length, get_or}
use Rattle.std.proofs.Common.{eq-eqb, ne_eqb}
use Rattle.base_laws.specs.Definitions.{all_below}
use Rattle.base_laws.proofs.Below.{all_fails, all_fewer}
use Rattle.program_arguments.specs.Definitions.{version_word, help_word, unknown_label, alike_at, same_text, told_line, is_known, answer_text}

-- texts of two lengths, with two bytes at a place, and with the same bytes at every place
module _ (a b : List ℕ) where
  pub lengths_differ : (length a ≡ length b → ⊥) → same_text a b ≡ false
  unfolding same_text
  lengths_differ h = rw (ne_eqb (length a) (length b) h)

  pub bytes_differ : (i : ℕ) → length a ≡ length b → i < length a → (get_or a i 0 ≡ get_or b i 0 → ⊥) → same_text a b ≡ false
  unfolding same_text
  bytes_differ i e l h = rw (eq-eqb (length a) (length b) e, all_fails (length a) (alike_at a b) i l (ne_eqb (get_or a i 0) (get_or b i 0) h))

  pub bytes_alike : (i : ℕ) → length a ≡ length b → length a ≤ i → all_below i (alike_at a b) ≡ true → same_text a b ≡ true
  unfolding same_text
  bytes_alike i e l h = rw (eq-eqb (length a) (length b) e, all_fewer (length a) i (alike_at a b) l h)

-- the answer by cases
module _ (word name version help : List ℕ) where
  pub asks_version : same_text word version_word ≡ true → (answer_text word name version help ≡ told_line name (32 ∷ []) version) × (is_known word ≡ true)
  unfolding answer_text is_known
  asks_version h = (rw h, rw h)

  pub asks_help : same_text word version_word ≡ false → same_text word help_word ≡ true → (answer_text word name version help ≡ help) × (is_known word ≡ true)
  unfolding answer_text is_known
  asks_help h k = (rw (h, k), rw (h, k))

  pub asks_neither : same_text word version_word ≡ false → same_text word help_word ≡ false
      → (answer_text word name version help ≡ told_line name unknown_label word) × (is_known word ≡ false)
  unfolding answer_text is_known
  asks_neither h k = (rw (h, k), rw (h, k))
