use borrow.Author.Tests.{eq-eqb, ne_eqb}
use Rattle.state_rows.proofs.sound_parts.no_position.Goals as goal

pub returns-then-view-ne0 : goal.returns-then-view-ne0
returns-then-view-ne0 c = simp (ne_eqb _ _ c.if-view-ne0.true)

pub returns : goal.returns
returns c = simp (eq-eqb _ _ c.if-view-ne0.false)
