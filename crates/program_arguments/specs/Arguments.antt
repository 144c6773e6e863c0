-- Laws: what `==` says of two texts, and the answer by cases.
use Rattle.std.specs.Prelude.{ℕ, Bool, bytes_eq, true, false, List, [], ◌∷◌, ◌≡◌, length, get_or}
use Rattle.std.proofs.Common.{sym, refl, ap, ◌∙◌, subst, eq-eqb, eqb-true}
use Rattle.std.specs.Bool.{one_answer}
use Rattle.std.proofs.lemmas.Slice.Eq.{bytes_eq-Decides}
use Rattle.std.proofs.lemmas.List.{ext_get_or}
use Rattle.base_laws.specs.Below.{all_at, all_of}
use Rattle.base_laws.specs.Bools.{and_left, and_right}
use Rattle.program_arguments.specs.Definitions.{version_word, help_word, unknown_label, alike_at, same_text, told_line, is_known, answer_text}

-- two texts are the same where their lists of bytes are
module _ (a b : List ℕ) where
  from_same : same_text a b ≡ true → a ≡ b
  unfolding same_text
  from_same h =
      let len = eqb-true (length a) (length b) (and_left _ _ h) in
      ext_get_or 0 a b len (λ i l. eqb-true _ _ (all_at (length a) (alike_at a b) (and_right _ _ h) i l))

  same_itself : same_text a a ≡ true
  unfolding same_text
  same_itself = rw (eq-eqb (length a) (length a) refl, all_of (length a) (alike_at a a) (λ k l. eq-eqb (get_or a k 0) (get_or a k 0) refl))

  same_eq : same_text a b ≡ bytes_eq a b
  same_eq = one_answer (same_text a b) (bytes_eq a b) (from_same, λ e. subst (λ l. same_text a l ≡ true) e same_itself) (bytes_eq-Decides a b)

-- what a test `a == w` tells
pub told_same : (a b : List ℕ) {w : List ℕ} {r t : Bool} → w ≡ b → r ≡ bytes_eq a w → r ≡ t → same_text a b ≡ t
told_same a b e h is = same_eq a b ∙ ap (bytes_eq a) (sym e) ∙ sym h ∙ is

-- the answer by cases
module _ (word name version help : List ℕ) where
  pub asks_version : same_text word version_word ≡ true → (is_known word ≡ true) × (answer_text word name version help ≡ told_line name (32 ∷ []) version)
  unfolding answer_text is_known
  asks_version h = (rw h, rw h)

  pub asks_help : same_text word version_word ≡ false → same_text word help_word ≡ true → (is_known word ≡ true) × (answer_text word name version help ≡ help)
  unfolding answer_text is_known
  asks_help h k = (rw (h, k), rw (h, k))

  pub asks_neither : same_text word version_word ≡ false → same_text word help_word ≡ false
      → (is_known word ≡ false) × (answer_text word name version help ≡ told_line name unknown_label word)
  unfolding answer_text is_known
  asks_neither h k = (rw (h, k), rw (h, k))
