-- `state_rows::phase_after` meets its contract: by whether all held nodes are marked. Assumes nothing.
use borrow.Author.Tests.{eq-eqb, ne_eqb}
use Rattle.state_rows.proofs.phase_after.Goals as goal

pub returns-then-marks-held : goal.returns-then-marks-held
returns-then-marks-held c = simp (eq-eqb _ _ c.if-marks-held.true)

pub returns : goal.returns
returns c = simp (ne_eqb _ _ c.if-marks-held.false)
