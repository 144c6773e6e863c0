-- `report_kept::position_in` meets its contract: by whether there is such a shard. Assumes nothing.
use borrow.Author.Tests.{lt-ltb, le-ltb}
use Rattle.report_kept.proofs.position_in.Goals as goal

pub returns-then-count-s : goal.returns-then-count-s
returns-then-count-s c = simp (le-ltb _ _ c.if-count-s.true)

pub returns : goal.returns
returns c = simp (lt-ltb _ _ c.if-count-s.false)
