-- `state_rows::sound_parts::position_tidy` meets its contract, test by test. Assumes nothing.
use mathlib.Core.Path.{sym}
use borrow.Author.Tests.{lt-ltb, le-ltb}
use Rattle.state_rows.proofs.sound_parts.position_tidy.Goals as goal

pub returns-then-not-made : goal.returns-then-not-made
returns-then-not-made c = simp (c.if-not-made.true, sym c.no_position.ensures)

pub returns-then-shards-s : goal.returns-then-shards-s
returns-then-shards-s c = simp (c.if-not-made.false, sym c.shards.ensures, le-ltb _ _ c.if-shards-s.true, sym c.no_position-then-shards-s.ensures)

pub returns : goal.returns
returns c = simp (c.if-not-made.false, sym c.shards.ensures, lt-ltb _ _ c.if-shards-s.false)
