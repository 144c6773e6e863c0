-- `report_kept::masks_in` meets its contract. The invariant: the masks of the shards below s are stored. Assumes nothing.
use native.Mathlib.Omega.{arith}
use Rattle.base_laws.proofs.Tables.{fill_start, fill_turn, fill_end}
use Rattle.report_kept.specs.Words.{masks_in}
use Rattle.report_kept.proofs.masks_in.Goals as goal

pub loop-s-init : goal.loop-s-init
loop-s-init c = fill_start 16 0 _

pub loop-s-preserved : goal.loop-s-preserved
loop-s-preserved c =
    let l = c.loop-s in fill_turn 16 0 _ l.s l.masks c.mask_in.result (omega arith) l.invariant c.mask_in.ensures

pub returns : goal.returns
unfolding masks_in
returns c = let l = c.loop-s in fill_end 16 0 _ l.s l.masks (omega arith) (omega arith) l.invariant
