-- `message_writer::word` meets its contract: each return is the case of the definition that the tests on the way there pick.
-- Assumes nothing.
use Rattle.message_format.specs.Definitions.{head_word, record_word, message_word}
use mathlib.Core.Path.{sym}
use borrow.Author.Tests.{lt-ltb, le-ltb}
use Rattle.message_writer.proofs.word.Goals as goal

pub returns-then-c-i : goal.returns-then-c-i
unfolding message_word
returns-then-c-i c = simp (lt-ltb _ _ c.if-c-i.true)

pub returns-then-p-lt3 : goal.returns-then-p-lt3
unfolding message_word record_word head_word
returns-then-p-lt3 c = simp (le-ltb _ _ c.if-c-i.false, lt-ltb _ _ c.if-p-lt3.true, sym c.record_word.ensures)

pub returns-then-i-c : goal.returns-then-i-c
unfolding message_word
returns-then-i-c c = simp (le-ltb _ _ c.if-c-i.false, le-ltb _ _ c.if-p-lt3.false, lt-ltb _ _ c.if-i-c.true)

pub returns : goal.returns
unfolding message_word
returns c = simp (le-ltb _ _ c.if-c-i.false, le-ltb _ _ c.if-p-lt3.false, le-ltb _ _ c.if-i-c.false)
