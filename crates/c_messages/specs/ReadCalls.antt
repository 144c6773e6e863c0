-- What a call that reads answers and leaves, case by case: the lent contents are too long or too short, the message is refused,
-- the message is taken.
use Rattle.std.specs.Prelude.{◌≡◌, refl, List, ℕ, ◌≤◌, eqb, length, Ok, Err}
use Rattle.std.proofs.Math.Path.{sym, ap}
use Rattle.std.proofs.Common.{◌∙◌, arith}
use borrow.Author.Tests.{eq-eqb, ne_eqb}
use Rattle.base_laws.proofs.Below.{lowest_le}
use Rattle.base_bytes.specs.Definitions.{bytes_of}
use Rattle.base_lent.specs.Definitions.{words_in, with_length}
use Rattle.base_lent.specs.Answers.{Told, told_refused, told_accepted}
use Rattle.base_ids.specs.declared.Refusal.{Refusal}
use Rattle.base_ids.specs.Definitions.{refused, none, accepted}
use Rattle.base_ids.specs.Refusals.{unless_true, unless_false}
use Rattle.base_ids.specs.Results.{ok_none, ok_value, err_value, err_refused}
use Rattle.message_format.specs.declared.Form.{Form}
use Rattle.message_format.specs.declared.Contents.{Contents}
use Rattle.message_format.specs.Definitions.{following, place, ends, contents_of, read_refusal}
use Rattle.message_format.specs.Messages.{reading_of, as_read}
use Rattle.c_messages.specs.Definitions.{contents_words, contents_length, read_refused, read_answer, read_leaves}

module _ (form : Form) (s m b : List ℕ) where
  -- what a call that reads answers and leaves
  abbrev pub ToldRead : ℕ → List ℕ → Type 0
  ToldRead answer left = (answer ≡ read_answer form s m b) × (left ≡ read_leaves form s m b)

  told : {answer : ℕ} {left : List ℕ}
      → Told (read_refused form s m b) (with_length (contents_length (contents_of (words_in m)))) (bytes_of (contents_words (contents_of (words_in m)))) b answer left
      → ToldRead answer left
  unfolding read_answer read_leaves
  told t = (t.answers, t.leaves)

  pub read_not_2048 : (length b ≡ 2048 → ⊥) → ToldRead 1 b
  unfolding read_refused
  read_not_2048 h =
      told (told_refused (refused 1) _ (unless_false (eqb (length b) 2048) 1 _ (ne_eqb (length b) 2048 h)) _ _ b refl)

  module _ (whole : length b ≡ 2048) where
    refusal_is : read_refused form s m b ≡ read_refusal form (words_in s) (words_in m)
    unfolding read_refused
    refusal_is = unless_true (eqb (length b) 2048) 1 _ (eq-eqb (length b) 2048 whole)

    pub read-refused : (r : Refusal) → Err r ≡ as_read (reading_of form (words_in s) (words_in m)) → ToldRead r.code b
    unfolding reading_of
    read-refused r e =
        let v = err_value _ r _ e in
        told (told_refused r _ (refusal_is ∙ sym v) _ _ b (ap accepted v ∙ err_refused _ r _ e))

    module _ (c : Contents) (e : Ok c ≡ as_read (reading_of form (words_in s) (words_in m))) where
      passed : read_refusal form (words_in s) (words_in m) ≡ none
      unfolding reading_of
      passed = ok_none _ _ c e

      contents_are : c ≡ contents_of (words_in m)
      unfolding reading_of
      contents_are = ok_value _ _ c e ∙ rw passed

      pub read_taken : ToldRead (with_length (contents_length c)) (bytes_of (contents_words c))
      read_taken =
          rw contents_are
          (told (told_accepted (read_refusal form (words_in s) (words_in m)) _ refusal_is _ _ b (ap accepted passed)))

      pub read_few : c.len ≤ 127
      unfolding contents_of following
      read_few =
          let len : c.len ≡ following (words_in m) = ap (λ (x : Contents). x.len) contents_are in
          omega (arith, lowest_le 127 (λ j. ends (words_in m) (place (words_in m) j)))
