-- `plan_losses::held_of` meets its contract: the node is not held, or it is by its set. Assumes nothing.
use Prim.Native.Nat.{ℕ}
use mathlib.Core.Path.{sym, ap, ◌∙◌}
use lib.Dec.{eqb}
use Rattle.plan_losses.specs.Needs.{held_not, held_is}
use Rattle.plan_losses.proofs.held_of.Goals as goal

pub returns-then-not-has : goal.returns-then-not-has
returns-then-not-has c = let a = c.args in
    let h = c.has in held_not a.settings.now a.held a.f a.n.0 (sym h.ensures ∙ c.if-not-has.true)

pub returns : goal.returns
returns c = let a = c.args in
    let h = c.has in
    held_is a.settings.now a.held a.f a.n.0 (eqb c.set_of.result a.f) (sym h.ensures ∙ c.if-not-has.false)
    (ap (λ (x : ℕ). eqb x a.f) c.set_of.ensures)
