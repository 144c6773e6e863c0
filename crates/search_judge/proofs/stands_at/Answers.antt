-- Each branch by its test. Assumes nothing.
use borrow.Author.Tests.{lt-ltb, le-ltb}
use Rattle.search_judge.proofs.stands_at.Goals as goal

pub returns-then-o-lt16 : goal.returns-then-o-lt16
returns-then-o-lt16 c = simp (lt-ltb _ _ c.if-o-lt16.true)

pub returns-else-o-lt16 : goal.returns-else-o-lt16
returns-else-o-lt16 c = simp (le-ltb _ _ c.if-o-lt16.false)
