-- Each answer follows from the tests on the way to it.
use borrow.Author.Tests.{le-leb, lt-leb}
use Rattle.message_format.specs.Definitions.{row5}
use Rattle.message_reader.proofs.length_ok.Goals as goal

pub returns-then-words-lt1 : goal.returns-then-words-lt1
unfolding row5
returns-then-words-lt1 c = simp (lt-leb _ _ c.if-words-lt1.true)

pub returns-then-words-gt512 : goal.returns-then-words-gt512
unfolding row5
returns-then-words-gt512 c = simp (le-leb _ _ c.if-words-lt1.false, lt-leb _ _ c.if-words-gt512.true)

pub returns : goal.returns
unfolding row5
returns c = simp (le-leb _ _ c.if-words-lt1.false, le-leb _ _ c.if-words-gt512.false)
