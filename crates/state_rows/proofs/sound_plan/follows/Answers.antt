-- `state_rows::sound_plan::follows` meets its contract: both tests as the definition has them. Assumes nothing.
use borrow.Author.Tests.{eq-eqb, ne_eqb}
use Rattle.state_rows.specs.Matches.{follows}
use Rattle.state_rows.proofs.sound_plan.follows.Goals as goal

pub returns-then-new-old : goal.returns-then-new-old
unfolding follows
returns-then-new-old c = simp (ne_eqb _ _ c.if-new-old.true)

pub returns : goal.returns
unfolding follows
returns c = simp (eq-eqb _ _ c.if-new-old.false)
