-- `c_placement::entry` meets its contract: each way out has the tests that led there. Assumes nothing.
use borrow.Author.Tests.{lt-ltb, le-ltb}
use Rattle.c_placement.specs.Rows.{entry_for}
use Rattle.c_placement.proofs.entry.Goals as goal

pub returns-then-cost-lt1 : goal.returns-then-cost-lt1
unfolding entry_for
returns-then-cost-lt1 c = simp (lt-ltb _ _ c.if-cost-lt1.true)

pub returns-then-cost-lt255 : goal.returns-then-cost-lt255
unfolding entry_for
returns-then-cost-lt255 c = simp (le-ltb _ _ c.if-cost-lt1.false, lt-ltb _ _ c.if-cost-lt255.true)

pub returns-else-cost-lt255 : goal.returns-else-cost-lt255
unfolding entry_for
returns-else-cost-lt255 c = simp (le-ltb _ _ c.if-cost-lt1.false, le-ltb _ _ c.if-cost-lt255.false)
