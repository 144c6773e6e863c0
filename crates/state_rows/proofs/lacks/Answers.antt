-- `state_rows::lacks` meets its contract: test by test. Assumes nothing.
use mathlib.Core.Path.{sym}
use Rattle.state_rows.proofs.lacks.Goals as goal

pub returns-then-not-has : goal.returns-then-not-has
returns-then-not-has c = simp (sym c.has.ensures, c.if-not-has.true)

pub returns : goal.returns
returns c = simp (sym c.has.ensures, c.if-not-has.false, sym c.has-2.ensures)
