-- `plan_page::shards_of` meets its contract. The invariant: the mask has the shards below s. Assumes nothing.
use Prim.Native.Nat.{ℕ}
use mathlib.Core.Path.{sym, ap, ◌∙◌}
use native.Mathlib.Nat.{le_antisymm}
use Rattle.base_sum_laws.specs.Definitions.{mask_below}
use Rattle.base_sum_laws.specs.Picked.{mask_none}
use Rattle.place_groups.specs.Definitions.{of_group}
use Rattle.plan_page.specs.Turns.{mask_grown}
use Rattle.plan_page.proofs.shards_of.Goals as goal

pub loop-s-init : goal.loop-s-init
loop-s-init c =
    let a = c.args in sym (mask_none (of_group a.settings.now a.g))

pub loop-s-preserved : goal.loop-s-preserved
loop-s-preserved c =
    let a = c.args in
    let l = c.loop-s in mask_grown l.s l.mask c.added-mask.result (of_group a.settings.now a.g) c.in_group.result l.invariant c.added-mask.ensures c.in_group.ensures

pub returns : goal.returns
returns c =
    let a = c.args in
    let l = c.loop-s in
    l.invariant ∙ ap (λ (k : ℕ). mask_below k (of_group a.settings.now a.g)) (le_antisymm l.auto.s-end c.loop-s-test.false)
