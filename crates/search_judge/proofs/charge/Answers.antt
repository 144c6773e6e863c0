-- Each branch by its test. Assumes nothing.
use mathlib.Core.Path.{sym}
use borrow.Author.Tests.{lt-ltb, le-ltb}
use Rattle.search_judge.proofs.charge.Goals as goal

pub returns-then-o-lt16 : goal.returns-then-o-lt16
returns-then-o-lt16 c = (simp (lt-ltb _ _ c.if-o-lt16.true, sym c.wide.ensures.0), c.wide.ensures.1)

pub returns-else-o-lt16 : goal.returns-else-o-lt16
returns-else-o-lt16 c = (simp (le-ltb _ _ c.if-o-lt16.false, sym c.wide-else-o-lt16.ensures.0), c.wide-else-o-lt16.ensures.1)
