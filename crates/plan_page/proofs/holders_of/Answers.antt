-- `plan_page::holders_of` meets its contract. The invariant: the holders of the shards below s are stored. Assumes nothing.
use native.Mathlib.Omega.{arith}
use Rattle.base_laws.proofs.Tables.{fill_start, fill_turn, fill_end}
use Rattle.base_ids.specs.declared.Node.{Node}
use Rattle.report_views.specs.Definitions.{node_at}
use Rattle.plan_page.specs.Definitions.{shown, holder_shown}
use Rattle.plan_page.proofs.holders_of.Goals as goal

abbrev nobody : Node
nobody = record { 0 = 0 }

pub loop-s-init : goal.loop-s-init
loop-s-init c =
    let a = c.args in fill_start 16 nobody (holder_shown a.settings.now a.g (node_at a.holders))

pub loop-s-preserved : goal.loop-s-preserved
unfolding holder_shown shown
loop-s-preserved c =
    let a = c.args in
    let l = c.loop-s in fill_turn 16 nobody (holder_shown a.settings.now a.g (node_at a.holders)) l.s l.list c.holder_shown.result (omega arith) l.invariant c.holder_shown.ensures

pub returns : goal.returns
returns c =
    let a = c.args in
    let l = c.loop-s in fill_end 16 nobody (holder_shown a.settings.now a.g (node_at a.holders)) l.s l.list (omega arith) (omega arith) l.invariant
