-- What reading a message gives under right settings, and how its rows lead there.
use Rattle.std.specs.Prelude.{◌≡◌, Bool, true, cond, List, ℕ, ◌≤◌, get_or, Ok, Err}
use Rattle.std.proofs.Math.Path.{refl, sym, ap}
use Rattle.std.proofs.Common.{◌∙◌, arith}
use Rattle.std.proofs.Math.Bool.{false}
use Rattle.base_laws.specs.Bools.{clash, no_true}
use Rattle.base_ids.specs.declared.Refusal.{Refusal}
use Rattle.base_ids.specs.Definitions.{refused, refused_at, none, accepted, number_in, index_in, unless_at, or_refusal}
use Rattle.base_ids.specs.Results.{err_is, ok_none, err_value, err_refused}
use Rattle.base_ids.specs.Refusals.{accepted_none, unless_true, unless_false, unless_at_ok, unless_at_true, first_none, first_refused}
use Rattle.settings_values.specs.Definitions.{settings_ok}
use Rattle.message_format.specs.declared.Form.{Form}
use Rattle.message_format.specs.declared.Contents.{Contents}
use Rattle.message_format.specs.declared.Reading.{Reading}
use Rattle.message_format.specs.Definitions.{place, following, row5, row8, body_of, contents_of, head_refusal, in_order, broken_at, records_refusal, message_refusal, read_refusal}
use Rattle.message_format.specs.Chain.{following_le}
use Rattle.message_format.specs.Messages.{blank, reading_of, as_read}
use Rattle.message_format.specs.Passed.{records_given, records_none}
use Rattle.message_format.specs.Placing.{placed_by, records_placed, records_index}
use Rattle.message_reader.specs.Walks.{chain_refusal}

-- the contents, or blank ones beside a refusal
abbrev pub read_or : Refusal → Contents → Reading
read_or r c = record { refusal = r; contents = cond (accepted r) c blank }

-- what the reader gives under right settings: the rows of a message
unfoldable pub reading_under : Form → List ℕ → List ℕ → Reading
reading_under form σ w = read_or (message_refusal form σ w) (contents_of w)

-- rows 6 and 7 of a message, and those of the records that it says, told at their steps along the chain
abbrev pub head_of : Form → List ℕ → List ℕ → Refusal
head_of form σ w = head_refusal form σ (get_or w 0 0) (get_or w 1 0) (get_or w 2 0)

abbrev pub records_in : Form → List ℕ → Contents → Refusal
records_in form σ c = records_refusal in_order form σ c.node.0 c.view.0 c.members c.body c.len

-- ways out by the refusal that was found
read_refused : (s r : Refusal) (c : Contents) → r ≡ s → accepted r ≡ false → Err r ≡ as_read (read_or s c)
read_refused s r c e h = err_is s r _ e h

read_passed : (s : Refusal) (c d : Contents) → s ≡ none → d ≡ c → Ok d ≡ as_read (read_or s c)
unfolding or_refusal
read_passed s c d e h = rw (e, h)

-- a message has at most 127 records after the head
pub contents_few : (w : List ℕ) (c : Contents) → c ≡ contents_of w → c.len ≤ 127
unfolding contents_of
contents_few w c e = let len : c.len ≡ following w = ap (λ (x : Contents). x.len) e in omega (arith, following_le w)

-- a chain that passes its own row
pub chain_linked : (w : List ℕ) → chain_refusal w ≡ none → row8 w ≡ true
unfolding chain_refusal
chain_linked w e = unless_at_ok (row8 w) 7 (broken_at w) none e

-- and one that does not ends the list
chain_only : (ok : Bool) (i : ℕ) (rest : Refusal) → accepted (unless_at ok 8 i none) ≡ false → unless_at ok 8 i rest ≡ unless_at ok 8 i none
unfolding unless_at
chain_only true i rest h = search
chain_only false i rest h = refl

-- what a message's records are refused by is told at one of them
pub records_few : (form : Form) (σ w : List ℕ) (c : Contents) (r : Refusal) → c ≡ contents_of w → r ≡ records_in form σ c → index_in r ≤ following w
unfolding contents_of
records_few form σ w c r e f =
    let len : c.len ≡ following w = ap (λ (x : Contents). x.len) e in
    let same : index_in r ≡ index_in (records_in form σ c) = ap (λ (x : Refusal). index_in x) f in
    omega (arith, records_index form σ c.node.0 c.view.0 c.members c.body c.len)

-- ---- a refusal told where its record stands

pub placed_told : (at : ℕ → ℕ) (r : Refusal) → accepted r ≡ false → (i : ℕ) → i ≡ at (index_in r) → refused_at (number_in r) i ≡ placed_by at r
unfolding placed_by
placed_told at r h i e = ap (refused_at (number_in r)) e ∙ rw h

placed_none : (at : ℕ → ℕ) (r : Refusal) → r ≡ none → placed_by at r ≡ none
unfolding placed_by
placed_none at r h = rw h

-- contents whose records are refused are refused at any index
placed_refused : (form : Form) (σ w : List ℕ) (c : Contents) → accepted (records_in form σ c) ≡ false
    → accepted (placed_by (place w) (records_in form σ c)) ≡ false
unfolding place
placed_refused form σ w c bad =
    no_true _ (λ t.
    let same = records_placed (place w) refl form σ c.node.0 c.view.0 c.members c.body c.len in
    let pass = records_given (place w) form σ c.node.0 c.view.0 c.members c.body c.len (same ∙ accepted_none _ t) in
    clash (ap accepted (records_none in_order form σ c.node.0 c.view.0 c.members c.body c.len pass)) bad)

module _ (form : Form) (σ w : List ℕ) where
  -- the rows of a message's records, told where they stand
  abbrev placed_records : Refusal
  placed_records = records_refusal (place w) form σ (get_or w 0 0) (get_or w 1 0) (get_or w 2 0) (body_of w) (following w)

  -- ---- the rows of a message in their order

  pub reading_length : row5 w ≡ false → Err (refused 5) ≡ as_read (reading_under form σ w)
  unfolding reading_under message_refusal
  reading_length h = read_refused _ (refused 5) _ (sym (unless_false (row5 w) 5 _ h)) refl

  module _ (sized : row5 w ≡ true) where
    pub reading_head : (r : Refusal) → Err r ≡ or_refusal (head_of form σ w) (tt {0}) → Err r ≡ as_read (reading_under form σ w)
    unfolding reading_under message_refusal
    reading_head r e =
        let v = err_value _ r _ e in
        let bad = err_refused _ r _ e in
        read_refused _ r _ (v ∙ sym (unless_true (row5 w) 5 _ sized ∙ first_refused (head_of form σ w) _ bad)) (ap accepted v ∙ bad)

    module _ (head : Ok (tt {0}) ≡ or_refusal (head_of form σ w) (tt {0})) where
      past_head : message_refusal form σ w ≡ unless_at (row8 w) 8 (broken_at w) placed_records
      unfolding message_refusal
      past_head = unless_true (row5 w) 5 _ sized ∙ first_none (head_of form σ w) _ (ok_none _ _ _ head)

      pub reading_chain : (r : Refusal) → Err r ≡ or_refusal (chain_refusal w) (tt {0}) → Err r ≡ as_read (reading_under form σ w)
      unfolding reading_under chain_refusal
      reading_chain r e =
          let v = err_value _ r _ e in
          let bad = err_refused _ r _ e in
          read_refused _ r _ (v ∙ sym (past_head ∙ chain_only (row8 w) (broken_at w) placed_records bad)) (ap accepted v ∙ bad)

      module _ (linked : row8 w ≡ true) (c : Contents) (e : c ≡ contents_of w) where
        past_chain : message_refusal form σ w ≡ placed_by (place w) (records_in form σ c)
        unfolding contents_of place
        past_chain =
            past_head
            ∙ unless_at_true (row8 w) 8 (broken_at w) _ linked
            ∙ records_placed (place w) refl form σ _ _ _ _ _
            ∙ ap (λ (x : Contents). placed_by (place w) (records_in form σ x)) (sym e)

        pub reading_placed : (r p : Refusal) → Err r ≡ or_refusal (records_in form σ c) (tt {0}) → p ≡ placed_by (place w) r
            → Err p ≡ as_read (reading_under form σ w)
        unfolding reading_under
        reading_placed r p h f =
            let v = err_value _ r _ h in
            let bad = err_refused _ r _ h in
            let same = f ∙ ap (placed_by (place w)) v in
            read_refused _ p _ (same ∙ sym past_chain) (ap accepted same ∙ placed_refused form σ w c bad)

        pub reading_records : Ok (tt {0}) ≡ or_refusal (records_in form σ c) (tt {0}) → Ok c ≡ as_read (reading_under form σ w)
        unfolding reading_under
        reading_records h = read_passed _ _ c (past_chain ∙ placed_none (place w) _ (ok_none _ _ _ h)) e

  -- ---- row 2 before them

  pub reading_settings : settings_ok σ ≡ false → Err (refused 2) ≡ as_read (reading_of form σ w)
  unfolding reading_of read_refusal
  reading_settings h = read_refused _ (refused 2) _ (sym (unless_false (settings_ok σ) 2 _ h)) refl

  pub reading_message : settings_ok σ ≡ true → reading_under form σ w ≡ reading_of form σ w
  unfolding reading_of read_refusal reading_under
  reading_message h = ap (λ (r : Refusal). read_or r (contents_of w)) (sym (unless_true (settings_ok σ) 2 _ h))
