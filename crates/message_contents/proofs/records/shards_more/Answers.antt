-- `message_contents::records::shards_more` meets its contract: each way out has the tests that led there.
use mathlib.Core.Path.{sym}
use borrow.Author.Tests.{eq-eqb, ne_eqb}
use Rattle.message_contents.proofs.records.shards_more.Goals as goal

pub returns-then-kind-k : goal.returns-then-kind-k
returns-then-kind-k c = simp (sym c.kind.ensures, ne_eqb _ _ c.if-kind-k.true)

pub returns : goal.returns
returns c = simp (sym c.kind.ensures, eq-eqb _ _ c.if-kind-k.false, sym c.shard-shard.ensures, sym c.with.ensures)
