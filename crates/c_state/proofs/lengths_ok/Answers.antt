-- Each answer follows from the test on the way to it.
use borrow.Author.Tests.{eq-eqb, ne_eqb}
use Rattle.c_state.proofs.lengths_ok.Goals as goal

pub returns-then-desk-ne65536 : goal.returns-then-desk-ne65536
returns-then-desk-ne65536 c = simp (ne_eqb _ _ c.if-desk-ne65536.true)

pub returns : goal.returns
returns c = simp (eq-eqb _ _ c.if-desk-ne65536.false)
