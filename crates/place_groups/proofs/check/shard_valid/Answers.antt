use Rattle.place_groups.specs.Definitions.{shard_valid}
use mathlib.Core.Path.{sym}
use borrow.Author.Tests.{le-leb, lt-leb}
use Rattle.place_groups.proofs.check.shard_valid.Goals as goal

pub returns-then-not-subset : goal.returns-then-not-subset
unfolding shard_valid
returns-then-not-subset c = simp (sym c.subset.ensures, c.if-not-subset.true)

pub returns-then-count-cap : goal.returns-then-count-cap
unfolding shard_valid
returns-then-count-cap c = simp (sym c.subset.ensures, c.if-not-subset.false, sym c.count.ensures, sym c.cap.ensures, lt-leb _ _ c.if-count-cap.true)

pub returns : goal.returns
unfolding shard_valid
returns c = simp (sym c.subset.ensures, c.if-not-subset.false, sym c.count.ensures, sym c.cap.ensures, le-leb _ _ c.if-count-cap.false, sym c.need.ensures, sym c.sets_in.ensures)
