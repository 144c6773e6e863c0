-- `message_rows::fields::precedes` meets its contract: each way out has the tests that led there.
use mathlib.Core.Path.{sym}
use borrow.Author.Tests.{eq-eqb, ne_eqb, lt-ltb, le-ltb, le-leb, lt-leb}
use Rattle.message_format.specs.Definitions.{precedes}
use Rattle.message_rows.proofs.fields.precedes.Goals as goal

pub returns-then-first-second : goal.returns-then-first-second
unfolding precedes
returns-then-first-second c = simp (sym c.tag-first.ensures, sym c.tag-second.ensures, lt-ltb _ _ c.if-first-second.true, lt-leb _ _ c.if-first-second.true)

pub returns-then-first-second-2 : goal.returns-then-first-second-2
unfolding precedes
returns-then-first-second-2 c = simp (sym c.tag-first.ensures, sym c.tag-second.ensures, le-ltb _ _ c.if-first-second.false, le-leb _ _ c.if-first-second.false, ne_eqb _ _ c.if-first-second-2.true)

pub returns-then-second-ne3 : goal.returns-then-second-ne3
unfolding precedes
returns-then-second-ne3 c = simp (sym c.tag-first.ensures, sym c.tag-second.ensures, le-ltb _ _ c.if-first-second.false, le-leb _ _ c.if-first-second.false, eq-eqb _ _ c.if-first-second-2.false, ne_eqb _ _ c.if-second-ne3.true)

pub returns : goal.returns
unfolding precedes
returns c = simp (sym c.tag-first.ensures, sym c.tag-second.ensures, le-ltb _ _ c.if-first-second.false, le-leb _ _ c.if-first-second.false, eq-eqb _ _ c.if-first-second-2.false, eq-eqb _ _ c.if-second-ne3.false, sym c.word1.ensures, sym c.word1-2.ensures)
