-- Each return is the case of the definition that the test picks.
use borrow.Author.Tests.{eq-eqb, ne_eqb}
use Rattle.message_flat.specs.Counted.{places_by}
use Rattle.message_flat.proofs.from_flat.places_by.Goals as goal

pub returns-then-flag-eq1 : goal.returns-then-flag-eq1
unfolding places_by
returns-then-flag-eq1 c = simp (eq-eqb _ _ c.if-flag-eq1.true)

pub returns : goal.returns
unfolding places_by
returns c = simp (ne_eqb _ _ c.if-flag-eq1.false)
