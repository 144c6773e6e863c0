-- `state_rows::sound_parts::nothing_planned` meets its contract. Assumes nothing.
use borrow.Author.Tests.{eq-eqb, ne_eqb}
use Rattle.state_rows.proofs.sound_parts.nothing_planned.Goals as goal

pub returns-then-holder-ne0 : goal.returns-then-holder-ne0
returns-then-holder-ne0 c = simp (ne_eqb _ _ c.if-holder-ne0.true)

pub returns : goal.returns
returns c = simp (eq-eqb _ _ c.if-holder-ne0.false) c.no_position.ensures
