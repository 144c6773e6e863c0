-- `message_contents::records::carried_more` meets its contract: each way out has the tests that led there.
use mathlib.Core.Path.{sym}
use borrow.Author.Tests.{eq-eqb, ne_eqb}
use Rattle.message_contents.proofs.records.carried_more.Goals as goal

pub returns-then-kind-ne1 : goal.returns-then-kind-ne1
returns-then-kind-ne1 c = simp (sym c.kind.ensures, ne_eqb _ _ c.if-kind-ne1.true)

pub returns-then-not-has : goal.returns-then-not-has
returns-then-not-has c = simp (sym c.kind.ensures, eq-eqb _ _ c.if-kind-ne1.false, sym c.word1.ensures, sym c.has.ensures, c.if-not-has.true)

pub returns : goal.returns
returns c = simp (sym c.kind.ensures, eq-eqb _ _ c.if-kind-ne1.false, sym c.word1.ensures, sym c.has.ensures, c.if-not-has.false, sym c.shard-shard.ensures, sym c.with.ensures)
