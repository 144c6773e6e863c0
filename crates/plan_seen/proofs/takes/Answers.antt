-- `plan_seen::takes` meets its contract, test by test.
use borrow.Author.Tests.{eq-eqb, ne_eqb}
use Rattle.plan_seen.proofs.takes.Goals as goal

pub returns-then-best-eq32 : goal.returns-then-best-eq32
returns-then-best-eq32 c = simp (eq-eqb _ _ c.if-best-eq32.true)

pub returns : goal.returns
returns c = simp (ne_eqb _ _ c.if-best-eq32.false)
