-- Each return is the case of the definition that the test picks.
use borrow.Author.Tests.{eq-eqb, ne_eqb}
use Rattle.message_flat.specs.Counted.{place_word}
use Rattle.message_flat.proofs.from_flat.place_word.Goals as goal

pub returns-then-p-eq0 : goal.returns-then-p-eq0
unfolding place_word
returns-then-p-eq0 c = simp (eq-eqb _ _ c.if-p-eq0.true)

pub returns : goal.returns
unfolding place_word
returns c = simp (ne_eqb _ _ c.if-p-eq0.false, c.word_in.ensures, c.wide.ensures)
