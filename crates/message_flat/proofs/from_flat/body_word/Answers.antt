-- A word of a record, or a zero after them.
use borrow.Author.Tests.{lt-ltb, le-ltb}
use mathlib.Core.Path.{sym}
use Rattle.message_flat.specs.Counted.{body_in}
use Rattle.message_flat.proofs.from_flat.body_word.Goals as goal

pub returns-then-k-records_of : goal.returns-then-k-records_of
unfolding body_in
returns-then-k-records_of c = simp (sym c.records_of.ensures, lt-ltb _ _ c.if-k-records_of.true, c.record_in.ensures)

pub returns : goal.returns
unfolding body_in
returns c = simp (sym c.records_of.ensures, le-ltb _ _ c.if-k-records_of.false)
