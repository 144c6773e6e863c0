-- `report_kept::positions_in` meets its contract. The invariant: the positions of the shards below s are stored. Assumes nothing.
use mathlib.Core.Path.{◌∙◌}
use native.Mathlib.Omega.{arith}
use Rattle.base_laws.proofs.Tables.{fill_start, fill_turn, fill_end}
use Rattle.report_views.specs.Definitions.{start}
use Rattle.report_kept.specs.Words.{positions_in}
use Rattle.report_kept.proofs.positions_in.Goals as goal

pub loop-s-init : goal.loop-s-init
loop-s-init c = c.no_positions-positions.ensures ∙ fill_start 16 start _

pub loop-s-preserved : goal.loop-s-preserved
loop-s-preserved c =
    let l = c.loop-s in fill_turn 16 start _ l.s l.positions c.position_in.result (omega arith) l.invariant c.position_in.ensures

pub returns : goal.returns
unfolding positions_in
returns c = let l = c.loop-s in fill_end 16 start _ l.s l.positions (omega arith) (omega arith) l.invariant
