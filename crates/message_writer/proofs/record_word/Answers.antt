-- `message_writer::record_word` meets its contract: each return is the case of the definition that the tests on the way there pick.
-- Assumes nothing.
use Rattle.message_format.specs.Definitions.{head_word, record_word}
use borrow.Author.Tests.{eq-eqb, ne_eqb}
use Rattle.message_writer.proofs.record_word.Goals as goal

pub returns-then-p-eq0 : goal.returns-then-p-eq0
unfolding record_word head_word
returns-then-p-eq0 c = simp (eq-eqb _ _ c.if-i-eq0.true, eq-eqb _ _ c.if-p-eq0.true)

pub returns-then-p-eq1 : goal.returns-then-p-eq1
unfolding record_word head_word
returns-then-p-eq1 c = simp (eq-eqb _ _ c.if-i-eq0.true, ne_eqb _ _ c.if-p-eq0.false, eq-eqb _ _ c.if-p-eq1.true)

pub returns-then-i-eq0 : goal.returns-then-i-eq0
unfolding record_word head_word
returns-then-i-eq0 c = simp (eq-eqb _ _ c.if-i-eq0.true, ne_eqb _ _ c.if-p-eq0.false, ne_eqb _ _ c.if-p-eq1.false)

pub returns : goal.returns
unfolding record_word head_word
returns c = simp (ne_eqb _ _ c.if-i-eq0.false)
