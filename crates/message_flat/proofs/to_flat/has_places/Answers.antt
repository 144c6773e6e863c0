-- Each return is the case of the definition that the test picks.
use borrow.Author.Tests.{lt-ltb, le-ltb}
use Rattle.message_flat.specs.Parted.{ended_in}
use Rattle.message_flat.proofs.to_flat.has_places.Goals as goal

pub returns-then-c-shards : goal.returns-then-c-shards
unfolding ended_in
returns-then-c-shards c = simp (le-ltb _ _ c.if-c-shards.true)

pub returns : goal.returns
unfolding ended_in
returns c = simp (lt-ltb _ _ c.if-c-shards.false, c.kind.ensures)
