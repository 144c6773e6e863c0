use mathlib.Core.Path.{sym}
use borrow.Author.Tests.{lt-ltb, le-ltb, le-leb, lt-leb}
use Rattle.state_rows.proofs.sound_parts.tidy_at.Goals as goal

pub returns-then-s-shards : goal.returns-then-s-shards
returns-then-s-shards c = simp (sym c.shards.ensures, lt-ltb _ _ c.if-s-shards.true, lt-leb _ _ c.if-s-shards.true)

pub returns : goal.returns
returns c = simp (sym c.shards.ensures, le-ltb _ _ c.if-s-shards.false, le-leb _ _ c.if-s-shards.false)
