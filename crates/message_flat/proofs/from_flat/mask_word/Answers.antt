-- Each return is the case of the definition that the tests pick.
use borrow.Author.Tests.{eq-eqb, ne_eqb}
use Rattle.message_flat.specs.Counted.{mask_word}
use Rattle.message_flat.proofs.from_flat.mask_word.Goals as goal

pub returns-then-p-eq0 : goal.returns-then-p-eq0
unfolding mask_word
returns-then-p-eq0 c = simp (eq-eqb _ _ c.if-p-eq0.true)

pub returns-then-p-eq1 : goal.returns-then-p-eq1
unfolding mask_word
returns-then-p-eq1 c = simp (ne_eqb _ _ c.if-p-eq0.false, eq-eqb _ _ c.if-p-eq1.true, c.word_in.ensures)

pub returns : goal.returns
unfolding mask_word
returns c = simp (ne_eqb _ _ c.if-p-eq0.false, ne_eqb _ _ c.if-p-eq1.false)
