-- Each return is the case of the definition that the tests pick.
use borrow.Author.Tests.{eq-eqb, ne_eqb}
use Rattle.message_flat.specs.Parted.{head_by}
use Rattle.message_flat.proofs.to_flat.head_word.Goals as goal

pub returns-then-k-eq0 : goal.returns-then-k-eq0
unfolding head_by
returns-then-k-eq0 c = simp (eq-eqb _ _ c.if-k-eq0.true)

pub returns-then-k-eq1 : goal.returns-then-k-eq1
unfolding head_by
returns-then-k-eq1 c = simp (ne_eqb _ _ c.if-k-eq0.false, eq-eqb _ _ c.if-k-eq1.true)

pub returns : goal.returns
unfolding head_by
returns c = simp (ne_eqb _ _ c.if-k-eq0.false, ne_eqb _ _ c.if-k-eq1.false)
