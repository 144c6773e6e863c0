-- `message_rows::run` meets its contract: each way out has the tests that led there.
use mathlib.Core.Path.{sym}
use borrow.Author.Tests.{lt-ltb, le-ltb, le-leb, lt-leb}
use Rattle.message_format.specs.Definitions.{legal}
use Rattle.message_rows.proofs.run.Goals as goal

pub returns-then-v-lt1 : goal.returns-then-v-lt1
unfolding legal
returns-then-v-lt1 c = simp (lt-ltb _ _ c.if-v-lt1.true, lt-leb _ _ c.if-v-lt1.true)

pub returns-then-count-lt1 : goal.returns-then-count-lt1
unfolding legal
returns-then-count-lt1 c = simp (le-ltb _ _ c.if-v-lt1.false, le-leb _ _ c.if-v-lt1.false, lt-ltb _ _ c.if-count-lt1.true, lt-leb _ _ c.if-count-lt1.true)

pub returns : goal.returns
unfolding legal
returns c = simp (le-ltb _ _ c.if-v-lt1.false, le-leb _ _ c.if-v-lt1.false, le-ltb _ _ c.if-count-lt1.false, le-leb _ _ c.if-count-lt1.false, sym c.view_fits.ensures)
