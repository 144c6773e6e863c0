-- `report_walk::pairs` meets its contract. The invariant: the pairs below i are stored.
use Rattle.std.proofs.Common.{arith}
use Rattle.base_laws.proofs.Tables.{fill_start, fill_turn}
use Rattle.report_walk.specs.Pairs.{pairs_filled}
use Rattle.report_walk.proofs.pairs.Goals as goal

pub loop-i-init : goal.loop-i-init
loop-i-init c = fill_start 256 0 _

pub loop-i-preserved : goal.loop-i-preserved
loop-i-preserved c =
    let l = c.loop-i in fill_turn 256 0 _ l.i l.list c.pair.result (omega arith) l.invariant c.pair.ensures

pub returns : goal.returns
returns c = let l = c.loop-i in pairs_filled _ l.list l.i (omega arith) (omega arith) l.invariant
