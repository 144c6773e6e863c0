-- Each return is the case of the definition that the test picks.
use borrow.Author.Tests.{lt-leb, le-leb}
use Rattle.message_flat.specs.Counted.{explained_by}
use Rattle.message_flat.proofs.from_flat.explained.Goals as goal

pub returns-then-n-gt1 : goal.returns-then-n-gt1
unfolding explained_by
returns-then-n-gt1 c = simp (lt-leb _ _ c.if-n-gt1.true)

pub returns : goal.returns
unfolding explained_by
returns c = simp (le-leb _ _ c.if-n-gt1.false, c.count_at.ensures, c.wide.ensures)
