-- `message_rows::shards::shard_apart` meets its contract: each way out has the tests that led there.
use mathlib.Core.Path.{sym}
use borrow.Author.Tests.{eq-eqb, ne_eqb}
use Rattle.message_format.specs.Definitions.{shard_apart}
use Rattle.message_rows.proofs.shards.shard_apart.Goals as goal

pub returns-then-subgroup : goal.returns-then-subgroup
unfolding shard_apart
returns-then-subgroup c = simp (sym c.subgroup.ensures, sym c.subgroup-2.ensures, ne_eqb _ _ c.if-subgroup.true)

pub returns : goal.returns
unfolding shard_apart
returns c = simp (sym c.subgroup.ensures, sym c.subgroup-2.ensures, eq-eqb _ _ c.if-subgroup.false, sym c.disjoint.ensures)
