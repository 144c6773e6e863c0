-- `plan_page::masks_of` meets its contract. The invariant: the masks of the shards below s are stored. Assumes nothing.
use native.Mathlib.Omega.{arith}
use lib.ListN.{get_or}
use Rattle.base_laws.proofs.Tables.{fill_start, fill_turn, fill_end}
use Rattle.plan_page.specs.Definitions.{mask_shown}
use Rattle.plan_page.proofs.masks_of.Goals as goal

pub loop-s-init : goal.loop-s-init
loop-s-init c =
    let a = c.args in fill_start 16 0 (mask_shown a.settings.now a.g (λ k. get_or a.masks.now k 0))

pub loop-s-preserved : goal.loop-s-preserved
unfolding mask_shown
loop-s-preserved c =
    let a = c.args in
    let l = c.loop-s in fill_turn 16 0 (mask_shown a.settings.now a.g (λ k. get_or a.masks.now k 0)) l.s l.list c.mask_shown.result (omega arith) l.invariant c.mask_shown.ensures

pub returns : goal.returns
returns c =
    let a = c.args in
    let l = c.loop-s in fill_end 16 0 (mask_shown a.settings.now a.g (λ k. get_or a.masks.now k 0)) l.s l.list (omega arith) (omega arith) l.invariant
