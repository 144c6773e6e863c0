-- Both ways on words: what is answered, the lent words afterwards; and that the words that a call looks at are as good as those that
-- were lent.
use Rattle.std.specs.Prelude.{ℕ, ◌≤◌, Bool, true, false, List, ◌≡◌, refl, eqb, leb, length, Ok, Err}
use Rattle.std.proofs.Common.{arith, ◌∙◌}
use Rattle.std.proofs.Math.Bool.{cond}
use Rattle.std.proofs.Math.Logic.{⊎_elim}
use Rattle.std.proofs.Math.Path.{sym, ap}
use borrow.Author.Tests.{eq-eqb, ne_eqb, leb-true}
use Rattle.base_laws.specs.Bools.{either, clash}
use Rattle.base_laws.proofs.Below.{lowest_le}
use Rattle.base_bytes.specs.Definitions.{bytes_of}
use Rattle.base_lent.specs.Definitions.{words_in, answer_word, with_length, bytes_left}
use Rattle.base_lent.specs.Answers.{told_refused, told_accepted}
use Rattle.base_lent.specs.Lent.{words_within}
use Rattle.base_ids.specs.declared.Refusal.{Refusal}
use Rattle.base_ids.specs.Definitions.{none, refused, accepted, unless, first_of, or_refusal}
use Rattle.base_ids.specs.Results.{err_is, ok_none, ok_value, err_value, err_refused}
use Rattle.base_ids.specs.Refusals.{accepted_none, unless_ok, unless_rest, unless_true, unless_false, first_right, first_none, first_refused}
use Rattle.settings_values.specs.Definitions.{settings_ok, Settings}
use Rattle.settings_values.specs.Laws.{settings_give}
use Rattle.message_format.specs.declared.Form.TheVariants.{Report}
use Rattle.message_format.specs.declared.Contents.{Contents}
use Rattle.message_format.specs.declared.Reading.{Reading}
use Rattle.message_format.specs.declared.Writing.{Writing}
use Rattle.message_format.specs.Definitions.{row5, following, place, ends, contents_of, message_refusal, read_refusal, contents_refusal, message_length, message_of}
use Rattle.message_format.specs.Messages.{reading_of, as_read, write_refusal, writing_of, as_written, buffer_after}
use Rattle.message_flat.specs.Definitions.{flat_refusal, flat_contents, has_places, places_in, flat_length, flat_words}
use Rattle.message_flat.specs.Flat.{from_flat_refusal, to_flat_refusal}
use Rattle.c_messages.specs.Limits.{settings_within, message_within, reading_within}
use Rattle.c_messages.specs.Definitions.{from_flat_refused, from_flat_answer, from_flat_leaves, to_flat_refused, to_flat_answer, to_flat_leaves}

-- what is answered beside the refusal r: a length, or 0 where something is refused
abbrev answered : Refusal → ℕ → Writing
answered r n = record { refusal = r; length = cond (accepted r) n 0 }

-- rows 1, 2, 19, 20 and 21
unfoldable pub flat_rows : List ℕ → List ℕ → List ℕ → Refusal
flat_rows σ f b = unless (eqb (length b) 512) 1 (unless (settings_ok σ) 2 (flat_refusal f))

-- a flat report turned into ours
unfoldable pub turning_of : List ℕ → List ℕ → List ℕ → Writing
turning_of σ f b = answered (from_flat_refusal σ f b) (message_length (flat_contents f))

unfoldable pub turned_words : List ℕ → List ℕ → List ℕ → List ℕ
turned_words σ f b = cond (accepted (from_flat_refusal σ f b)) (message_of (flat_contents f) 512) b

-- our report turned into a flat one
unfoldable pub back_of : List ℕ → List ℕ → List ℕ → Writing
back_of σ w b = answered (to_flat_refusal σ w b) (flat_length σ (contents_of w))

unfoldable pub back_words : List ℕ → List ℕ → List ℕ → List ℕ
back_words σ w b = cond (accepted (to_flat_refusal σ w b)) (flat_words σ (contents_of w)) b

-- ---- a flat report turned into ours

-- the rows one after another
rows_first : (σ f b : List ℕ) → from_flat_refusal σ f b ≡ first_of (flat_rows σ f b) (contents_refusal Report σ (flat_contents f))
unfolding from_flat_refusal flat_rows unless first_of
rows_first σ f b = go (eqb (length b) 512) (settings_ok σ) (flat_refusal f) (contents_refusal Report σ (flat_contents f))
  where
    go : (x y : Bool) (r s : Refusal) → unless x 1 (unless y 2 (first_of r s)) ≡ first_of (unless x 1 (unless y 2 r)) s
    go true true r s = refl
    go true false r s = refl
    go false y r s = refl

module _ (σ f b : List ℕ) where
  module _ (r : Refusal) (e : Err r ≡ or_refusal (flat_rows σ f b) (tt {0})) where
    refusal_kept : from_flat_refusal σ f b ≡ flat_rows σ f b
    refusal_kept = rows_first σ f b ∙ first_refused (flat_rows σ f b) _ (err_refused _ r _ e)

    pub turn_refused : Err r ≡ as_written (turning_of σ f b)
    unfolding turning_of
    turn_refused = err_is _ r _ (err_value _ r _ e ∙ sym refusal_kept) (ap accepted (err_value _ r _ e) ∙ err_refused _ r _ e)

    pub turn_keeps : b ≡ turned_words σ f b
    unfolding turned_words
    turn_keeps = rw (refusal_kept, err_refused _ r _ e)

  module _ (e : Ok (tt {0}) ≡ or_refusal (flat_rows σ f b) (tt {0})) (c : Contents) (d : c ≡ flat_contents f) where
    passed : flat_rows σ f b ≡ none
    passed = ok_none _ _ _ e

    same_refusal : write_refusal Report σ (flat_contents f) b ≡ from_flat_refusal σ f b
    unfolding write_refusal flat_rows
    same_refusal =
        let long = unless_ok (eqb (length b) 512) 0 _ passed in
        let rest = unless_rest (eqb (length b) 512) 0 _ passed in
        unless_true (eqb (length b) 512) 1 _ long ∙ unless_true (settings_ok σ) 2 _ (unless_ok (settings_ok σ) 1 _ rest)
        ∙ sym (rows_first σ f b ∙ first_none (flat_rows σ f b) _ passed)

    pub turn_writes : as_written (writing_of Report σ c b) ≡ as_written (turning_of σ f b)
    unfolding writing_of turning_of
    turn_writes = rw (d, same_refusal)

    pub turn_leaves : buffer_after Report σ c b ≡ turned_words σ f b
    unfolding buffer_after turned_words
    turn_leaves = rw (d, same_refusal)

-- settings of too many words are wrong, as none are
from_within : (s f b : List ℕ) → from_flat_refusal (words_within 52 s) f b ≡ from_flat_refusal (words_in s) f b
unfolding from_flat_refusal
from_within s f b =
    ⊎_elim (λ e. ap (λ (σ : List ℕ). from_flat_refusal σ f b) e)
    (λ h. ap (unless (eqb (length b) 512) 1)
    (unless_false (settings_ok (words_within 52 s)) 2 _ h.0 ∙ sym (unless_false (settings_ok (words_in s)) 2 _ h.1)))
    (settings_within s)

module _ (s σ f b : List ℕ) (e : σ ≡ words_within 52 s) where
  pub turning_within : as_written (turning_of σ f b) ≡ as_written (turning_of (words_in s) f b)
  unfolding turning_of
  turning_within = rw (e, from_within s f b)

  pub turned_within : turned_words σ f b ≡ turned_words (words_in s) f b
  unfolding turned_words
  turned_within = rw (e, from_within s f b)

-- ---- our report turned into a flat one

module _ (σ w b : List ℕ) where
  -- beside a refusal
  back_told : (r : Refusal) → r ≡ to_flat_refusal σ w b → accepted r ≡ false → (Err r ≡ as_written (back_of σ w b)) × (b ≡ back_words σ w b)
  unfolding back_of back_words
  back_told r e h = let no = sym (ap accepted e) ∙ h in (err_is _ r _ e h, rw no)

  pub back_not_512 : (length b ≡ 512 → ⊥) → (Err (refused 1) ≡ as_written (back_of σ w b)) × (b ≡ back_words σ w b)
  unfolding to_flat_refusal
  back_not_512 h = back_told (refused 1) (sym (unless_false (eqb (length b) 512) 1 _ (ne_eqb (length b) 512 h))) refl

  module _ (long : length b ≡ 512) where
    same_read : to_flat_refusal σ w b ≡ read_refusal Report σ w
    unfolding to_flat_refusal
    same_read = unless_true (eqb (length b) 512) 1 _ (eq-eqb (length b) 512 long)

    pub back_refused : (r : Refusal) → Err r ≡ as_read (reading_of Report σ w) → (Err r ≡ as_written (back_of σ w b)) × (b ≡ back_words σ w b)
    unfolding reading_of
    back_refused r e =
        let v = err_value _ r _ e in
        back_told r (v ∙ sym same_read) (ap accepted v ∙ err_refused _ r _ e)

    module _ (c : Contents) (e : Ok c ≡ as_read (reading_of Report σ w)) where
      read_none : read_refusal Report σ w ≡ none
      unfolding reading_of
      read_none = ok_none _ _ c e

      pub back_settings : Settings σ
      unfolding read_refusal
      back_settings = settings_give σ (unless_ok (settings_ok σ) 1 _ read_none)

      contents_are : c ≡ contents_of w
      unfolding reading_of
      contents_are = ok_value _ _ c e ∙ rw read_none

      pub back_few : c.len ≤ 127
      unfolding contents_of following
      back_few =
          let len : c.len ≡ following w = ap (λ (x : Contents). x.len) contents_are in
          omega (arith, lowest_le 127 (λ j. ends w (place w j)))

      pub back_written : (n : ℕ) (out : List ℕ) → n ≡ flat_length σ c → out ≡ flat_words σ c
          → (Ok n ≡ as_written (back_of σ w b)) × (out ≡ back_words σ w b)
      unfolding back_of back_words or_refusal
      back_written n out p q = (rw (same_read, read_none, p, contents_are), rw (same_read, read_none, q, contents_are))

-- beside a refusal it does not matter what would be made
answered_alike : (r : Refusal) (x y : ℕ) → accepted r ≡ false → answered r x ≡ answered r y
answered_alike r x y h = rw h

kept_alike : (r : Refusal) (x y b : List ℕ) → accepted r ≡ false → cond (accepted r) x b ≡ cond (accepted r) y b
kept_alike r x y b h = rw h

-- the words that are looked at
module _ (s m b : List ℕ) where
  to_within : to_flat_refusal (words_within 52 s) (words_within 512 m) b ≡ to_flat_refusal (words_in s) (words_in m) b
  unfolding to_flat_refusal reading_of
  to_within = ap (unless (eqb (length b) 512) 1) (ap (λ (x : Reading). x.refusal) (reading_within Report s m))

  -- accepted, they are those that were lent
  module _ (h : to_flat_refusal (words_in s) (words_in m) b ≡ none) where
    taken : read_refusal Report (words_in s) (words_in m) ≡ none
    unfolding to_flat_refusal
    taken = unless_rest (eqb (length b) 512) 0 _ h

    same_settings : words_within 52 s ≡ words_in s
    unfolding read_refusal
    same_settings = ⊎_elim (λ e. e) (λ k. clash (unless_ok (settings_ok (words_in s)) 1 _ taken) k.1) (settings_within s)

    same_message : words_within 512 m ≡ words_in m
    unfolding read_refusal message_refusal
    same_message =
        ⊎_elim (λ e. e)
        (λ k. clash (unless_ok (row5 (words_in m)) 4 _ (unless_rest (settings_ok (words_in s)) 1 _ taken)) k.1) (message_within m)

  back_within : back_of (words_within 52 s) (words_within 512 m) b ≡ back_of (words_in s) (words_in m) b
  unfolding back_of
  back_within =
      ⊎_elim (λ h. let n = accepted_none _ h in rw (same_settings n, same_message n))
      (λ h. ap (λ (r : Refusal). answered r (flat_length (words_within 52 s) (contents_of (words_within 512 m)))) to_within
      ∙ answered_alike (to_flat_refusal (words_in s) (words_in m) b) _ _ h)
      (either (accepted (to_flat_refusal (words_in s) (words_in m) b)))

  back_words_within : back_words (words_within 52 s) (words_within 512 m) b ≡ back_words (words_in s) (words_in m) b
  unfolding back_words
  back_words_within =
      ⊎_elim (λ h. let n = accepted_none _ h in rw (same_settings n, same_message n))
      (λ h. ap (λ (r : Refusal). cond (accepted r) (flat_words (words_within 52 s) (contents_of (words_within 512 m))) b) to_within
      ∙ kept_alike (to_flat_refusal (words_in s) (words_in m) b) _ _ b h)
      (either (accepted (to_flat_refusal (words_in s) (words_in m) b)))

module _ (s m b σ w : List ℕ) (e : σ ≡ words_within 52 s) (g : w ≡ words_within 512 m) where
  pub back_seen : as_written (back_of σ w b) ≡ as_written (back_of (words_in s) (words_in m) b)
  back_seen = rw (e, g) (ap as_written (back_within s m b))

  pub back_words_seen : back_words σ w b ≡ back_words (words_in s) (words_in m) b
  back_words_seen = rw (e, g) (back_words_within s m b)

-- ---- the calls

module _ (s f b : List ℕ) where
  pub from_not_2048 : (length b ≡ 2048 → ⊥) → (1 ≡ from_flat_answer s f b) × (b ≡ from_flat_leaves s f b)
  unfolding from_flat_answer from_flat_leaves from_flat_refused answer_word bytes_left
  from_not_2048 h =
      let no : from_flat_refused s f b ≡ refused 1 = unless_false (eqb (length b) 2048) 1 _ (ne_eqb (length b) 2048 h) in
      (rw no, rw no)

  module _ (whole : length b ≡ 2048) (z : List ℕ) (q : length z ≡ 512) where
    from_same : from_flat_refused s f b ≡ from_flat_refusal (words_in s) (words_in f) z
    unfolding from_flat_refusal from_flat_refused
    from_same = unless_true (eqb (length b) 2048) 1 _ (eq-eqb (length b) 2048 whole) ∙ sym (unless_true (eqb (length z) 512) 1 _ (eq-eqb (length z) 512 q))

    pub from_told : (r : Refusal) → Err r ≡ as_written (turning_of (words_in s) (words_in f) z) → (r.code ≡ from_flat_answer s f b) × (b ≡ from_flat_leaves s f b)
    unfolding turning_of from_flat_answer from_flat_leaves
    from_told r e =
        let v = err_value _ r _ e in
        let t = told_refused r _ (from_same ∙ sym v) _ _ b (ap accepted v ∙ err_refused _ r _ e) in
        (t.answers, t.leaves)

    module _ (n : ℕ) (e : Ok n ≡ as_written (turning_of (words_in s) (words_in f) z)) where
      from_taken : from_flat_refusal (words_in s) (words_in f) z ≡ none
      unfolding turning_of
      from_taken = ok_none _ _ n e

      from_long : n ≡ message_length (flat_contents (words_in f))
      unfolding turning_of
      from_long = ok_value _ _ n e ∙ rw from_taken

      pub from_few : n ≤ 512
      unfolding from_flat_refusal contents_refusal
      from_few =
          let rest = unless_rest (settings_ok (words_in s)) 1 _ (unless_rest (eqb (length z) 512) 0 _ from_taken) in
          let few = leb-true (flat_contents (words_in f)).len 127 (unless_ok (leb (flat_contents (words_in f)).len 127) 4 _ (first_right (flat_refusal (words_in f)) _ rest)) in
          omega (arith, few, from_long)

      pub from_given : (out : List ℕ) → out ≡ turned_words (words_in s) (words_in f) z
          → (with_length n ≡ from_flat_answer s f b) × (bytes_of out ≡ from_flat_leaves s f b)
      unfolding turned_words from_flat_answer from_flat_leaves
      from_given out o =
          let t = told_accepted _ _ from_same (with_length (message_length (flat_contents (words_in f)))) (bytes_of (message_of (flat_contents (words_in f)) 512)) b (ap accepted from_taken) in
          let made : out ≡ message_of (flat_contents (words_in f)) 512 = o ∙ rw from_taken in
          (rw from_long t.answers, rw made t.leaves)

module _ (s m b : List ℕ) where
  pub to_not_2048 : (length b ≡ 2048 → ⊥) → (1 ≡ to_flat_answer s m b) × (b ≡ to_flat_leaves s m b)
  unfolding to_flat_answer to_flat_leaves to_flat_refused answer_word bytes_left
  to_not_2048 h =
      let no : to_flat_refused s m b ≡ refused 1 = unless_false (eqb (length b) 2048) 1 _ (ne_eqb (length b) 2048 h) in
      (rw no, rw no)

  module _ (whole : length b ≡ 2048) (z : List ℕ) (q : length z ≡ 512) where
    to_same : to_flat_refused s m b ≡ to_flat_refusal (words_in s) (words_in m) z
    unfolding to_flat_refusal to_flat_refused
    to_same = unless_true (eqb (length b) 2048) 1 _ (eq-eqb (length b) 2048 whole) ∙ sym (unless_true (eqb (length z) 512) 1 _ (eq-eqb (length z) 512 q))

    pub to_told : (r : Refusal) → Err r ≡ as_written (back_of (words_in s) (words_in m) z) → (r.code ≡ to_flat_answer s m b) × (b ≡ to_flat_leaves s m b)
    unfolding back_of to_flat_answer to_flat_leaves
    to_told r e =
        let v = err_value _ r _ e in
        let t = told_refused r _ (to_same ∙ sym v) _ _ b (ap accepted v ∙ err_refused _ r _ e) in
        (t.answers, t.leaves)

    flat_short : Settings (words_in s) → flat_length (words_in s) (contents_of (words_in m)) ≤ 512
    unfolding places_in contents_of following
    flat_short g =
        let few = lowest_le 127 (λ j. ends (words_in m) (place (words_in m) j)) in
        let low = g.sizes.shards_to in
        ⊎_elim (λ (h : has_places (words_in s) (contents_of (words_in m)) ≡ true). rw h (omega (arith, few, low))) (λ h. rw h (omega (arith, few, low)))
        (either (has_places (words_in s) (contents_of (words_in m))))

    module _ (n : ℕ) (e : Ok n ≡ as_written (back_of (words_in s) (words_in m) z)) where
      to_taken : to_flat_refusal (words_in s) (words_in m) z ≡ none
      unfolding back_of
      to_taken = ok_none _ _ n e

      to_long : n ≡ flat_length (words_in s) (contents_of (words_in m))
      unfolding back_of
      to_long = ok_value _ _ n e ∙ rw to_taken

      pub to_few : n ≤ 512
      unfolding to_flat_refusal read_refusal
      to_few =
          rw to_long
          (flat_short (settings_give (words_in s) (unless_ok (settings_ok (words_in s)) 1 _ (unless_rest (eqb (length z) 512) 0 _ to_taken))))

      pub to_given : (out : List ℕ) → out ≡ back_words (words_in s) (words_in m) z
          → (with_length n ≡ to_flat_answer s m b) × (bytes_of out ≡ to_flat_leaves s m b)
      unfolding back_words to_flat_answer to_flat_leaves
      to_given out o =
          let t = told_accepted _ _ to_same (with_length (flat_length (words_in s) (contents_of (words_in m)))) (bytes_of (flat_words (words_in s) (contents_of (words_in m)))) b (ap accepted to_taken) in
          let made : out ≡ flat_words (words_in s) (contents_of (words_in m)) = o ∙ rw to_taken in
          (rw to_long t.answers, rw made t.leaves)
