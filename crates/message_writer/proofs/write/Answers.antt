-- `message_writer::write` meets its contract. Both answers and the lent words after each follow from what `write_refusal` ensures: a
-- refusal leaves the words as they were, and no refusal gives what `fill` requires, 512 words and at most 127 records.
-- Assumes nothing.
use Prim.Native.Nat.{ℕ, ◌≤◌}
use mathlib.Core.List.{List}
use mathlib.Core.Path.{◌≡◌, ap, ◌∙◌}
use lib.ListN.{length}
use borrow.Author.Tests.{eqb-true}
use Rattle.std.specs.Prelude.{Ok, Err}
use Rattle.std.proofs.lemmas.Result.{err_from_is_err_and}
use Rattle.base_ids.specs.declared.Refusal.{Refusal}
use Rattle.base_ids.specs.Definitions.{none, accepted, or_refusal}
use Rattle.base_ids.specs.Results.{err_is, ok_none, err_value, err_refused}
use Rattle.message_format.specs.declared.Form.{Form}
use Rattle.message_format.specs.declared.Contents.{Contents}
use Rattle.message_format.specs.Definitions.{message_length, message_of}
use Rattle.message_format.specs.Messages.{write_refusal, writing_of, as_written, buffer_after}
use Rattle.message_format.specs.Passed.{contents_few, write_given}
use Rattle.message_writer.proofs.write.Goals as goal

module _ (form : Form) (σ : List ℕ) (c : Contents) (buffer : List ℕ) where
  module _ (r : Refusal) (e : Err r ≡ or_refusal (write_refusal form σ c buffer) (tt {0})) where
    refused_answer : Err r ≡ as_written (writing_of form σ c buffer)
    unfolding writing_of
    refused_answer =
        let v = err_value _ r _ e in
        err_is _ r _ v (ap accepted v ∙ err_refused _ r _ e)

    refused_words : buffer ≡ buffer_after form σ c buffer
    unfolding buffer_after
    refused_words = rw (err_refused _ r _ e)

  module _ (e : Ok (tt {0}) ≡ or_refusal (write_refusal form σ c buffer) (tt {0})) where
    taken : write_refusal form σ c buffer ≡ none
    taken = ok_none _ _ _ e

    taken_answer : (l : ℕ) → l ≡ message_length c → Ok l ≡ as_written (writing_of form σ c buffer)
    unfolding writing_of or_refusal
    taken_answer l i = rw (i, taken)

    taken_words : (after : List ℕ) → after ≡ message_of c 512 → after ≡ buffer_after form σ c buffer
    unfolding buffer_after
    taken_words after i = i ∙ rw taken

    taken_length : length buffer ≡ 512
    taken_length = eqb-true (length buffer) 512 (write_given form σ c buffer taken).buffer_passes

    taken_few : c.len ≤ 127
    taken_few = contents_few form σ c (write_given form σ c buffer taken).contents_pass

pub returns-in_err-write_refusal : goal.returns-in_err-write_refusal
returns-in_err-write_refusal c =
    let e = c.in_err-write_refusal.ensures in
    let p = err_from_is_err_and c.from_residual.result c.from_residual.ensures.1 in
    record { answer = rw (p.1, p.2) (refused_answer _ _ _ _ _ e); words = refused_words _ _ _ _ _ e }

pub fill-requires : goal.fill-requires
fill-requires c = (taken_length _ _ _ _ c.in_ok-write_refusal.ensures, taken_few _ _ _ _ c.in_ok-write_refusal.ensures)

pub returns : goal.returns
returns c =
    let e = c.in_ok-write_refusal.ensures in
    let filled = c.fill.ensures in
    record { answer = taken_answer _ _ _ _ e _ filled.answer; words = taken_words _ _ _ _ e _ filled.words }
