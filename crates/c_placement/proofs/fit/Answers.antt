-- `c_placement::fit` meets its contract: each way out has the test that led there. Assumes nothing.
use borrow.Author.Tests.{eq-eqb, ne_eqb}
use Rattle.c_placement.proofs.fit.Goals as goal

pub returns-then-sets-ne32 : goal.returns-then-sets-ne32
returns-then-sets-ne32 c = simp (ne_eqb _ _ c.if-sets-ne32.true)

pub returns-then-needs-ne16 : goal.returns-then-needs-ne16
returns-then-needs-ne16 c = simp (eq-eqb _ _ c.if-sets-ne32.false, ne_eqb _ _ c.if-needs-ne16.true)

pub returns-then-caps-ne16 : goal.returns-then-caps-ne16
returns-then-caps-ne16 c = simp (eq-eqb _ _ c.if-sets-ne32.false, eq-eqb _ _ c.if-needs-ne16.false, ne_eqb _ _ c.if-caps-ne16.true)

pub returns-then-costs-ne512 : goal.returns-then-costs-ne512
returns-then-costs-ne512 c =
    simp (eq-eqb _ _ c.if-sets-ne32.false, eq-eqb _ _ c.if-needs-ne16.false, eq-eqb _ _ c.if-caps-ne16.false, ne_eqb _ _ c.if-costs-ne512.true)

pub returns : goal.returns
returns c =
    simp (eq-eqb _ _ c.if-sets-ne32.false, eq-eqb _ _ c.if-needs-ne16.false, eq-eqb _ _ c.if-caps-ne16.false, eq-eqb _ _ c.if-costs-ne512.false)
