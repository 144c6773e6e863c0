-- Each answer follows from the tests on the way to it.
use borrow.Author.Tests.{eq-eqb, ne_eqb, le-leb, lt-leb}
use Rattle.c_messages.specs.Definitions.{record_count}
use Rattle.c_messages.proofs.record_count.Goals as goal

pub returns-then-words-lt3 : goal.returns-then-words-lt3
unfolding record_count
returns-then-words-lt3 c = simp (lt-leb _ _ c.if-words-lt3.true)

pub returns-then-words-ne0 : goal.returns-then-words-ne0
unfolding record_count
returns-then-words-ne0 c = simp (le-leb _ _ c.if-words-lt3.false, ne_eqb _ _ c.if-words-ne0.true)

pub returns : goal.returns
unfolding record_count
returns c = simp (le-leb _ _ c.if-words-lt3.false, eq-eqb _ _ c.if-words-ne0.false)
