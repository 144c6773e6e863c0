-- `report_kept::mask_in` meets its contract: by whether there is such a shard. Assumes nothing.
use borrow.Author.Tests.{lt-ltb, le-ltb}
use Rattle.report_kept.proofs.mask_in.Goals as goal

pub returns-then-s-count : goal.returns-then-s-count
returns-then-s-count c = simp (lt-ltb _ _ c.if-s-count.true)

pub returns-else-s-count : goal.returns-else-s-count
returns-else-s-count c = simp (le-ltb _ _ c.if-s-count.false)
