-- `message_rows::shards::row10_at` meets its contract: each way out has the tests that led there.
use mathlib.Core.Path.{sym}
use borrow.Author.Tests.{lt-ltb, le-ltb, le-leb, lt-leb}
use Rattle.message_format.specs.Definitions.{row10_at}
use Rattle.message_rows.proofs.shards.row10_at.Goals as goal

pub returns-then-mask-lt1 : goal.returns-then-mask-lt1
unfolding row10_at
returns-then-mask-lt1 c = simp (lt-ltb _ _ c.if-mask-lt1.true, lt-leb _ _ c.if-mask-lt1.true)

pub returns-then-not-subset : goal.returns-then-not-subset
unfolding row10_at
returns-then-not-subset c = simp (le-ltb _ _ c.if-mask-lt1.false, le-leb _ _ c.if-mask-lt1.false, sym c.subset.ensures, c.if-not-subset.true)

pub returns : goal.returns
unfolding row10_at
returns c = simp (le-ltb _ _ c.if-mask-lt1.false, le-leb _ _ c.if-mask-lt1.false, sym c.subset.ensures, c.if-not-subset.false, sym c.apart_below.ensures)
