-- `plan_page::known_of` meets its contract. The invariant: the mask has the shards below s that are shown. Assumes nothing.
use Prim.Native.Nat.{ℕ}
use mathlib.Core.Path.{sym, ap, ◌∙◌}
use native.Mathlib.Nat.{le_antisymm}
use Rattle.base_sum_laws.specs.Definitions.{mask_below}
use Rattle.base_sum_laws.specs.Picked.{mask_none}
use Rattle.report_views.specs.Definitions.{node_at}
use Rattle.plan_page.specs.Definitions.{shown}
use Rattle.plan_page.specs.Turns.{mask_grown}
use Rattle.plan_page.proofs.known_of.Goals as goal

pub loop-s-init : goal.loop-s-init
loop-s-init c =
    let a = c.args in sym (mask_none (shown a.settings.now a.g (node_at a.holders)))

pub loop-s-preserved : goal.loop-s-preserved
unfolding shown
loop-s-preserved c =
    let a = c.args in
    let l = c.loop-s in mask_grown l.s l.mask c.added-mask.result (shown a.settings.now a.g (node_at a.holders)) c.is_shown.result l.invariant c.added-mask.ensures c.is_shown.ensures

pub returns : goal.returns
returns c =
    let a = c.args in
    let l = c.loop-s in
    l.invariant ∙ ap (λ (k : ℕ). mask_below k (shown a.settings.now a.g (node_at a.holders))) (le_antisymm l.auto.s-end c.loop-s-test.false)
