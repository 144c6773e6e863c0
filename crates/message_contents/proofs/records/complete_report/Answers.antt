-- `message_contents::records::complete_report` meets its contract: each way out has the tests that led there.
use mathlib.Core.Path.{sym}
use borrow.Author.Tests.{eq-eqb, ne_eqb}
use Rattle.message_format.specs.Definitions.{complete}
use Rattle.message_contents.proofs.records.complete_report.Goals as goal

pub returns-then-not-covered : goal.returns-then-not-covered
unfolding complete
returns-then-not-covered c = simp (sym c.every_shard-every.ensures, sym c.covered.ensures, c.if-not-covered.true)

pub returns-then-second-eq0 : goal.returns-then-second-eq0
unfolding complete
returns-then-second-eq0 c = simp (sym c.every_shard-every.ensures, sym c.covered.ensures, c.if-not-covered.false, sym c.shards_of-second.ensures, eq-eqb _ _ c.if-second-eq0.true)

pub returns : goal.returns
unfolding complete
returns c = simp (sym c.every_shard-every.ensures, sym c.covered.ensures, c.if-not-covered.false, sym c.shards_of-second.ensures, ne_eqb _ _ c.if-second-eq0.false, sym c.subset.ensures)
