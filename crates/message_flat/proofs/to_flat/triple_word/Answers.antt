-- Each return is the case of the definition that the test picks.
use borrow.Author.Tests.{eq-eqb, ne_eqb}
use Rattle.message_flat.specs.Definitions.{triple_word}
use Rattle.message_flat.proofs.to_flat.triple_word.Goals as goal

pub returns-then-i-eq0 : goal.returns-then-i-eq0
unfolding triple_word
returns-then-i-eq0 c = simp (eq-eqb _ _ c.if-i-eq0.true, c.shard-shard.ensures)

pub returns : goal.returns
unfolding triple_word
returns c = simp (ne_eqb _ _ c.if-i-eq0.false)
