-- Contents lent as bytes; and what a call that writes answers and leaves, case by case: the lent buffer is too long or too short,
-- the contents are refused, the message is written.
use Rattle.std.specs.Prelude.{◌≡◌, refl, ◌⊎◌, ◌&&◌, List, ℕ, ◌+◌, ◌%◌, ◌≤◌, ◌<◌, eqb, leb, length, get_or, Ok, Err}
use Rattle.std.proofs.Math.Path.{sym, ap}
use Rattle.std.proofs.Common.{ap₂, ◌∙◌, inl, inr, ⊎_elim, arith, lit<}
use borrow.Author.Tests.{eq-eqb, ne_eqb, lt-leb, leb-true, eqb-true}
use Rattle.base_laws.specs.Bools.{either, and_right}
use Rattle.base_laws.specs.Definitions.{tabulate, padded}
use Rattle.base_laws.specs.Tables.{tabulate_cong}
use Rattle.base_laws.proofs.Tables.{get_or_padded_all}
use Rattle.base_bytes.specs.Definitions.{bytes_of}
use Rattle.base_lent.specs.Definitions.{words_in, with_length}
use Rattle.base_lent.specs.Lent.{words_within, within_cases, HoldsWords}
use Rattle.base_lent.specs.Answers.{Told, told_refused, told_accepted}
use Rattle.base_ids.specs.declared.Refusal.{Refusal}
use Rattle.base_ids.specs.Definitions.{refused, none, accepted, unless}
use Rattle.base_ids.specs.Refusals.{unless_ok, unless_rest, unless_true, unless_false}
use Rattle.base_ids.specs.Results.{ok_none, ok_value, err_value, err_refused}
use Rattle.settings_values.specs.Definitions.{settings_ok}
use Rattle.message_format.specs.declared.Form.{Form}
use Rattle.message_format.specs.declared.Contents.{Contents}
use Rattle.message_format.specs.Definitions.{contents_refusal, message_length, message_of}
use Rattle.message_format.specs.Messages.{write_refusal, writing_of, as_written, buffer_after}
use Rattle.c_messages.specs.Definitions.{record_count, contents_in, contents_lent, write_refused, write_answer, write_leaves}

-- ---- contents

-- contents by the number of their records and their body
pub contents_from : (table : List ℕ) (n len : ℕ) (body : List ℕ) → len ≡ record_count n → body ≡ tabulate 381 (λ k. get_or table (k + 3) 0)
    → ◌≡◌ {A = Contents}
    (record { node = record { 0 = get_or table 0 0 }; view = record { 0 = get_or table 1 0 }; members = get_or table 2 0; len = len; body = body })
    (contents_in table n)
unfolding contents_in
contents_from table n len body e f = rw (e, f)

-- zeros after the words change nothing
pub contents_padded : (w : List ℕ) (n : ℕ) → length w ≤ 512 → contents_in (padded 512 w) n ≡ contents_in w n
unfolding contents_in
contents_padded w n l =
    let same : (k : ℕ) → get_or (padded 512 w) k 0 ≡ get_or w k 0 = λ k. get_or_padded_all 512 w k l in
    let bodies : tabulate 381 (λ k. get_or (padded 512 w) (k + 3) 0) ≡ tabulate 381 (λ k. get_or w (k + 3) 0) =
    tabulate_cong 381 (λ k. get_or (padded 512 w) (k + 3) 0) (λ k. get_or w (k + 3) 0) (λ k i. same (k + 3)) in
    rw (same 0, same 1, same 2, bodies)

-- more than 384 words are more than 127 records
count_many : (n : ℕ) → 384 < n → 127 < record_count n
unfolding record_count
count_many n l =
    ⊎_elim (λ e. rw e (let whole = eqb-true (n % 3) 0 (and_right (leb 3 n) (eqb (n % 3) 0) e) in omega arith)) (λ e. rw e (omega arith)) (either (leb 3 n && eqb (n % 3) 0))

-- and so, in effect, are none
count_none : 127 < record_count 0
unfolding record_count
count_none = lit< tt

-- the contents that a call looks at
abbrev pub contents_within : List ℕ → Contents
contents_within b = contents_in (words_within 384 b) (length (words_within 384 b))

-- a table that holds their words
pub contents_held : (table : List ℕ) (n : ℕ) (b : List ℕ) → HoldsWords table n 384 b → contents_in table n ≡ contents_within b
contents_held table n b h =
    ap₂ contents_in h.whole h.count
    ∙ contents_padded (words_within 384 b) (length (words_within 384 b)) (let few = h.few in omega (arith, h.count))

-- they are those that were lent, or both have too many records
contents-within : (b : List ℕ) → (contents_within b ≡ contents_lent b) ⊎ ((127 < (contents_within b).len) × (127 < (contents_lent b).len))
unfolding contents_lent contents_in
contents-within b =
    ⊎_elim (λ e. inl (ap (λ (w : List ℕ). contents_in w (length w)) e))
    (λ c. inr (rw c.0 count_none, count_many (length (words_in b)) c.1))
    (within_cases 384 b)

-- ---- the cases

-- too many records are row 5
too_many : (form : Form) (σ : List ℕ) (c : Contents) → 127 < c.len → contents_refusal form σ c ≡ refused 5
unfolding contents_refusal
too_many form σ c l = unless_false (leb c.len 127) 5 _ (lt-leb c.len 127 l)

refusal_within : (form : Form) (σ b : List ℕ) → contents_refusal form σ (contents_within b) ≡ contents_refusal form σ (contents_lent b)
refusal_within form σ b =
    ⊎_elim (λ e. ap (contents_refusal form σ) e)
    (λ c. too_many form σ (contents_within b) c.0 ∙ sym (too_many form σ (contents_lent b) c.1))
    (contents-within b)

module _ (form : Form) (s k b : List ℕ) where
  -- what a call that writes answers and leaves
  abbrev pub ToldWrite : ℕ → List ℕ → Type 0
  ToldWrite answer left = (answer ≡ write_answer form s k b) × (left ≡ write_leaves form s k b)

  told : {answer : ℕ} {left : List ℕ}
      → Told (write_refused form s k b) (with_length (message_length (contents_lent k))) (bytes_of (message_of (contents_lent k) 512)) b answer left
      → ToldWrite answer left
  unfolding write_answer write_leaves
  told t = (t.answers, t.leaves)

  pub write_not_2048 : (length b ≡ 2048 → ⊥) → ToldWrite 1 b
  unfolding write_refused
  write_not_2048 h =
      told (told_refused (refused 1) _ (unless_false (eqb (length b) 2048) 1 _ (ne_eqb (length b) 2048 h)) _ _ b refl)

  -- the message of c was written into 512 words z
  module _ (whole : length b ≡ 2048) (z : List ℕ) (long : length z ≡ 512) (c : Contents) (q : c ≡ contents_within k) where
    refusal_is : write_refused form s k b ≡ write_refusal form (words_in s) c z
    unfolding write_refused write_refusal
    refusal_is =
        unless_true (eqb (length b) 2048) 1 _ (eq-eqb (length b) 2048 whole)
        ∙ ap (unless (settings_ok (words_in s)) 2) (sym (ap (contents_refusal form (words_in s)) q ∙ refusal_within form (words_in s) k))
        ∙ sym (unless_true (eqb (length z) 512) 1 _ (eq-eqb (length z) 512 long))

    pub write-refused : (r : Refusal) → Err r ≡ as_written (writing_of form (words_in s) c z) → ToldWrite r.code b
    unfolding writing_of
    write-refused r e =
        let v = err_value _ r _ e in
        told (told_refused r _ (refusal_is ∙ sym v) _ _ b (ap accepted v ∙ err_refused _ r _ e))

    module _ (n : ℕ) (e : Ok n ≡ as_written (writing_of form (words_in s) c z)) where
      written : write_refusal form (words_in s) c z ≡ none
      unfolding writing_of
      written = ok_none _ _ n e

      taken : contents_refusal form (words_in s) (contents_within k) ≡ none
      unfolding write_refusal
      taken =
          ap (contents_refusal form (words_in s)) (sym q)
          ∙ unless_rest (settings_ok (words_in s)) 1 _ (unless_rest (eqb (length z) 512) 0 _ written)

      same_contents : contents_within k ≡ contents_lent k
      same_contents =
          ⊎_elim (λ p. p)
          (λ l. absurd (let five : 5 ≡ 0 = ap (λ (r : Refusal). r.code) (sym (too_many form (words_in s) (contents_within k) l.0) ∙ taken) in omega arith))
          (contents-within k)

      length_is : n ≡ message_length c
      unfolding writing_of
      length_is = ok_value _ _ n e ∙ rw written

      pub write_few : n ≤ 512
      unfolding contents_refusal
      write_few =
          let few = leb-true (contents_within k).len 127 (unless_ok (leb (contents_within k).len 127) 4 _ taken) in
          let same : c.len ≡ (contents_within k).len = ap (λ (x : Contents). x.len) q in
          omega (arith, length_is)

      pub write_taken : (out : List ℕ) → out ≡ buffer_after form (words_in s) c z → ToldWrite (with_length n) (bytes_of out)
      unfolding buffer_after
      write_taken out g =
          let same : c ≡ contents_lent k = q ∙ same_contents in
          let made : out ≡ message_of (contents_lent k) 512 = g ∙ rw (written, same) in
          let counted : n ≡ message_length (contents_lent k) = length_is ∙ ap message_length same in
          rw (made, counted)
          (told (told_accepted (write_refusal form (words_in s) c z) _ refusal_is _ _ b (ap accepted written)))
