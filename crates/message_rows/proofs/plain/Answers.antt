-- `message_rows::plain` meets its contract: each way out has the tests that led there.
use borrow.Author.Tests.{eq-eqb, ne_eqb}
use Rattle.message_format.specs.Definitions.{plain}
use Rattle.message_rows.proofs.plain.Goals as goal

pub returns-then-k-eq1 : goal.returns-then-k-eq1
unfolding plain
returns-then-k-eq1 c = simp (eq-eqb _ _ c.if-k-eq1.true)

pub returns-then-k-eq4 : goal.returns-then-k-eq4
unfolding plain
returns-then-k-eq4 c = simp (ne_eqb _ _ c.if-k-eq1.false, eq-eqb _ _ c.if-k-eq4.true)

pub returns : goal.returns
unfolding plain
returns c = simp (ne_eqb _ _ c.if-k-eq1.false, ne_eqb _ _ c.if-k-eq4.false)
