-- Laws over the values that definitions have, where the code gives a Result or an Option.
use Rattle.message_reader.specs.Readings.{read_or, head_of, records_in, reading_under}
use Rattle.std.specs.Prelude.{◌≡◌, Bool, true, List, ℕ, get_or}
use Rattle.std.proofs.Math.Path.{refl, sym, ap, ap₂}
use Rattle.std.proofs.Common.{◌∙◌}
use Rattle.std.proofs.Math.Bool.{false}
use borrow.Author.Tests.{eq-eqb, ne_eqb}
use Rattle.base_ids.specs.declared.Refusal.{Refusal}
use Rattle.base_ids.specs.Definitions.{refused, refused_at, none, accepted, number_in, index_in, unless_at}
use Rattle.base_ids.specs.Refusals.{accepted_none, unless_true, unless_false, unless_at_ok, unless_at_true, first_none, first_refused}
use Rattle.settings_values.specs.Definitions.{settings_ok}
use Rattle.message_format.specs.declared.Form.{Form}
use Rattle.message_format.specs.declared.Contents.{Contents}
use Rattle.message_format.specs.declared.Reading.{Reading}
use Rattle.message_format.specs.Definitions.{place, following, row5, row8, body_of, contents_of, broken_at, records_refusal, message_refusal, read_refusal}
use Rattle.message_format.specs.Messages.{blank, reading_of}
use Rattle.message_format.specs.Placing.{placed_by, records_placed}
use Rattle.message_reader.specs.Walks.{chain_refusal}

-- a refusal, and nothing read
abbrev pub nothing_read : Refusal → Reading
nothing_read r = record { refusal = r; contents = blank }

-- an answer by the refusal that was found
answer_refused : (r s : Refusal) (c : Contents) → s ≡ r → accepted r ≡ false → nothing_read r ≡ read_or s c
answer_refused r s c e h = rw (e, h)

-- a refusal with the number 0 is none
pub number_zero : (r s : Refusal) → r ≡ s → r.code ≡ 0 → s ≡ none
number_zero r s e h = sym e ∙ ap refused h

-- a chain that passes its own row
pub chain_linked : (w : List ℕ) (r : Refusal) → r ≡ chain_refusal w → r.code ≡ 0 → row8 w ≡ true
unfolding chain_refusal
chain_linked w r e h = unless_at_ok (row8 w) 7 (broken_at w) none (number_zero r _ e h)

-- and one that does not ends the list
chain_only : (ok : Bool) (i : ℕ) (rest : Refusal) → (unless_at ok 8 i none ≡ none → ⊥) → unless_at ok 8 i rest ≡ unless_at ok 8 i none
unfolding unless_at
chain_only true i rest h = absurd (h refl)
chain_only false i rest h = refl

module _ (at : ℕ → ℕ) (r : Refusal) where
  pub placed_none : r.code ≡ 0 → r ≡ placed_by at r
  unfolding placed_by
  placed_none h = accepted_none r (eq-eqb r.code 0 h) ∙ rw (eq-eqb r.code 0 h)

  pub placed_told : (r.code ≡ 0 → ⊥) → (i : ℕ) → i ≡ at (index_in r) → refused_at (number_in r) i ≡ placed_by at r
  unfolding placed_by
  placed_told h i e = ap (refused_at (number_in r)) e ∙ rw (ne_eqb r.code 0 h)

module _ (form : Form) (σ w : List ℕ) where
  -- the rows of a message's records, told where they stand
  abbrev records_where : Refusal
  records_where = records_refusal (place w) form σ (get_or w 0 0) (get_or w 1 0) (get_or w 2 0) (body_of w) (following w)

  pub reading_length : row5 w ≡ false → nothing_read (refused 5) ≡ reading_under form σ w
  unfolding reading_under message_refusal
  reading_length h = answer_refused (refused 5) _ _ (unless_false (row5 w) 5 _ h) refl

  module _ (sized : row5 w ≡ true) where
    pub reading_head : (r : Refusal) → r ≡ head_of form σ w → (r.code ≡ 0 → ⊥) → nothing_read r ≡ reading_under form σ w
    unfolding reading_under message_refusal
    reading_head r e h =
        let bad : accepted r ≡ false = ne_eqb r.code 0 h in
        let bad-head : accepted (head_of form σ w) ≡ false = rw e at bad in
        answer_refused r _ _ (unless_true (row5 w) 5 _ sized ∙ first_refused (head_of form σ w) _ bad-head ∙ sym e) bad

    module _ (head : head_of form σ w ≡ none) where
      past_head : message_refusal form σ w ≡ unless_at (row8 w) 8 (broken_at w) records_where
      unfolding message_refusal
      past_head = unless_true (row5 w) 5 _ sized ∙ first_none (head_of form σ w) _ head

      pub reading_chain : (r : Refusal) → r ≡ chain_refusal w → (r.code ≡ 0 → ⊥) → nothing_read r ≡ reading_under form σ w
      unfolding reading_under chain_refusal
      reading_chain r e h =
          let bad : accepted r ≡ false = ne_eqb r.code 0 h in
          answer_refused r _ _ (past_head ∙ chain_only (row8 w) (broken_at w) records_where (λ z. h (ap (λ (q : Refusal). q.code) (e ∙ z))) ∙ sym e) bad

      pub reading_records : row8 w ≡ true → (r : Refusal) (c : Contents) → c ≡ contents_of w
          → r ≡ placed_by (place w) (records_in form σ c) → read_or r c ≡ reading_under form σ w
      unfolding reading_under contents_of place
      reading_records h r c e f =
          ap₂ read_or
          (f ∙ ap (λ (x : Contents). placed_by (place w) (records_in form σ x)) e
          ∙ sym (past_head ∙ unless_at_true (row8 w) 8 (broken_at w) _ h ∙ records_placed (place w) refl form σ _ _ _ _ _)) e

  pub reading_settings : settings_ok σ ≡ false → nothing_read (refused 2) ≡ reading_of form σ w
  unfolding reading_of read_refusal
  reading_settings h = answer_refused (refused 2) _ _ (unless_false (settings_ok σ) 2 _ h) refl
