-- `place_layout::mask_with` meets its contract: the definition's test, taken or not. Assumes nothing.
use mathlib.Core.Path.{sym, ap, ◌∙◌}
use mathlib.Core.Bool.{Bool, cond}
use Rattle.place_laws.specs.Adding.{owned_by, mask_with}
use Rattle.place_layout.proofs.mask_with.Goals as goal

pub returns-then-not-in_group : goal.returns-then-not-in_group
unfolding mask_with
returns-then-not-in_group c =
    let a = c.args in
    let i = c.in_group in
    sym (ap (λ (b : Bool). cond b (owned_by a.owners.now a.s.0) a.was) (sym i.ensures ∙ c.if-not-in_group.true))

pub returns : goal.returns
unfolding mask_with
returns c =
    let a = c.args in
    let i = c.in_group in
    c.owned_by.ensures
    ∙ sym (ap (λ (b : Bool). cond b (owned_by a.owners.now a.s.0) a.was) (sym i.ensures ∙ c.if-not-in_group.false))
