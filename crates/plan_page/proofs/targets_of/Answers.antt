-- `plan_page::targets_of` meets its contract. The invariant: the targets of the shards below s are stored. Assumes nothing.
use mathlib.Core.Path.{◌∙◌}
use native.Mathlib.Omega.{arith}
use lib.ListN.{get_or}
use Rattle.base_laws.proofs.Tables.{fill_start, fill_turn, fill_end}
use Rattle.report_views.specs.Definitions.{start, node_at}
use Rattle.plan_page.specs.Definitions.{shown, target_shown}
use Rattle.plan_page.proofs.targets_of.Goals as goal

pub loop-s-init : goal.loop-s-init
loop-s-init c =
    let a = c.args in c.no_positions-list.ensures ∙ fill_start 16 start (target_shown a.settings.now a.g (node_at a.holders) (λ k. get_or a.targets k start))

pub loop-s-preserved : goal.loop-s-preserved
unfolding target_shown shown
loop-s-preserved c =
    let a = c.args in
    let l = c.loop-s in fill_turn 16 start (target_shown a.settings.now a.g (node_at a.holders) (λ k. get_or a.targets k start)) l.s l.list c.target_shown.result (omega arith) l.invariant c.target_shown.ensures

pub returns : goal.returns
returns c =
    let a = c.args in
    let l = c.loop-s in fill_end 16 start (target_shown a.settings.now a.g (node_at a.holders) (λ k. get_or a.targets k start)) l.s l.list (omega arith) (omega arith) l.invariant
