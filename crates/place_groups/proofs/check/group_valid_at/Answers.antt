use Rattle.place_groups.specs.Definitions.{group_valid_at}
use mathlib.Core.Path.{sym}
use borrow.Author.Tests.{eq-eqb, ne_eqb}
use Rattle.place_groups.proofs.check.group_valid_at.Goals as goal

pub returns-then-subgroup-g : goal.returns-then-subgroup-g
unfolding group_valid_at
returns-then-subgroup-g c = simp (sym c.subgroup.ensures, ne_eqb _ _ c.if-subgroup-g.true)

pub returns-then-not-shard_valid : goal.returns-then-not-shard_valid
unfolding group_valid_at
returns-then-not-shard_valid c = simp (sym c.subgroup.ensures, eq-eqb _ _ c.if-subgroup-g.false, sym c.shard_valid.ensures, c.if-not-shard_valid.true)

pub returns : goal.returns
unfolding group_valid_at
returns c = simp (sym c.subgroup.ensures, eq-eqb _ _ c.if-subgroup-g.false, sym c.shard_valid.ensures, c.if-not-shard_valid.false, sym c.apart_below.ensures)
