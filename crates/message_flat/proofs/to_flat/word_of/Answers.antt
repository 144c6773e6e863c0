-- Each return is the case of the definition that the tests pick.
use borrow.Author.Tests.{lt-ltb, le-ltb}
use mathlib.Core.Path.{sym}
use Rattle.message_flat.specs.Parted.{word_of}
use Rattle.message_flat.proofs.to_flat.word_of.Goals as goal

pub returns-then-k-places : goal.returns-then-k-places
unfolding word_of
returns-then-k-places c = simp (lt-ltb _ _ c.if-k-places.true, c.front_word.ensures)

pub returns-then-k-count : goal.returns-then-k-count
unfolding word_of
returns-then-k-count c = simp (le-ltb _ _ c.if-k-places.false, lt-ltb _ _ c.if-k-count.true, c.position_word.ensures)

pub returns-then-k-count-2 : goal.returns-then-k-count-2
unfolding word_of
returns-then-k-count-2 c = simp (le-ltb _ _ c.if-k-places.false, le-ltb _ _ c.if-k-count.false, lt-ltb _ _ c.if-k-count-2.true)

pub returns-then-k-length_of : goal.returns-then-k-length_of
unfolding word_of
returns-then-k-length_of c = simp (
  le-ltb _ _ c.if-k-places.false,
  le-ltb _ _ c.if-k-count.false,
  le-ltb _ _ c.if-k-count-2.false,
  sym c.length_of.ensures,
  lt-ltb _ _ c.if-k-length_of.true,
  c.triple_word.ensures,
)

pub returns : goal.returns
unfolding word_of
returns c = simp (
  le-ltb _ _ c.if-k-places.false,
  le-ltb _ _ c.if-k-count.false,
  le-ltb _ _ c.if-k-count-2.false,
  sym c.length_of.ensures,
  le-ltb _ _ c.if-k-length_of.false,
)
