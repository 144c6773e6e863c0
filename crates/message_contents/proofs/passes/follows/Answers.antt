-- `message_contents::passes::follows` meets its contract: each way out has the tests that led there.
use mathlib.Core.Path.{sym}
use borrow.Author.Tests.{eq-eqb, ne_eqb}
use Rattle.message_contents.proofs.passes.follows.Goals as goal

pub returns-then-j-eq0 : goal.returns-then-j-eq0
returns-then-j-eq0 c = simp (eq-eqb _ _ c.if-j-eq0.true)

pub returns : goal.returns
returns c = simp (ne_eqb _ _ c.if-j-eq0.false, sym c.precedes.ensures)
