-- `plan_masks::some_holder` meets its contract: by whether a held node counts. Assumes nothing.
use mathlib.Core.Path.{sym, ◌∙◌}
use Rattle.plan_masks.specs.Masks.{some_holder}
use Rattle.plan_masks.proofs.some_holder.Goals as goal

pub returns-then-disjoint : goal.returns-then-disjoint
unfolding some_holder
returns-then-disjoint c = simp (sym c.disjoint.ensures ∙ c.if-disjoint.true)

pub returns : goal.returns
unfolding some_holder
returns c = simp (sym c.disjoint.ensures ∙ c.if-disjoint.false)
