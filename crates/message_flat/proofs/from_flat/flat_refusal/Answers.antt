-- Each way out is the row that the tests pick.
use mathlib.Core.Path.{refl, sym}
use Rattle.base_ids.specs.Results.{ok_is, err_is}
use Rattle.message_flat.proofs.Counted.{row_19, row_20, row_21, no_row}
use Rattle.message_flat.proofs.from_flat.flat_refusal.Goals as goal

pub returns-then-not-explained : goal.returns-then-not-explained
returns-then-not-explained c =
    err_is _ _ _ (row_19 _ _ c.counts_of-n.ensures _ c.words_in.ensures _ c.explained.ensures c.if-not-explained.true) refl

pub returns-then-zero_in : goal.returns-then-zero_in
returns-then-zero_in c =
    err_is _ _ _
    (row_20 _ _ c.counts_of-n.ensures _ c.words_in.ensures _ c.explained.ensures c.if-not-explained.false _ c.zero_in.ensures
    c.if-zero_in.true)
    refl

pub returns-then-records_of-gt127 : goal.returns-then-records_of-gt127
returns-then-records_of-gt127 c =
    err_is _ _ _
    (row_21 _ _ c.counts_of-n.ensures _ c.words_in.ensures _ c.explained.ensures c.if-not-explained.false _ c.zero_in.ensures
    c.if-zero_in.false _ c.records_of.ensures c.if-records_of-gt127.true)
    refl

pub returns : goal.returns
returns c =
    ok_is _ _
    (sym (no_row _ _ c.counts_of-n.ensures _ c.words_in.ensures _ c.explained.ensures c.if-not-explained.false _ c.zero_in.ensures
    c.if-zero_in.false _ c.records_of.ensures c.if-records_of-gt127.false))
