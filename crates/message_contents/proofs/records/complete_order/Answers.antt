-- `message_contents::records::complete_order` meets its contract: each way out has the tests that led there.
use mathlib.Core.Path.{sym}
use Rattle.message_format.specs.Definitions.{complete}
use Rattle.message_contents.proofs.records.complete_order.Goals as goal

pub returns-then-not-covered : goal.returns-then-not-covered
unfolding complete
returns-then-not-covered c = simp (sym c.every_shard-every.ensures, sym c.covered.ensures, c.if-not-covered.true)

pub returns-then-not-covered-2 : goal.returns-then-not-covered-2
unfolding complete
returns-then-not-covered-2 c = simp (sym c.every_shard-every.ensures, sym c.covered.ensures, c.if-not-covered.false, sym c.covered-2.ensures, c.if-not-covered-2.true)

pub returns-then-not-covered-3 : goal.returns-then-not-covered-3
unfolding complete
returns-then-not-covered-3 c = simp (sym c.every_shard-every.ensures, sym c.covered.ensures, c.if-not-covered.false, sym c.covered-2.ensures, c.if-not-covered-2.false, sym c.carried_by-carried.ensures, sym c.covered-3.ensures, c.if-not-covered-3.true)

pub returns : goal.returns
unfolding complete
returns c = simp (sym c.every_shard-every.ensures, sym c.covered.ensures, c.if-not-covered.false, sym c.covered-2.ensures, c.if-not-covered-2.false, sym c.carried_by-carried.ensures, sym c.covered-3.ensures, c.if-not-covered-3.false, sym c.covered-4.ensures)
