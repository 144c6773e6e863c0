-- `base_bytes::pairs` meets its contract. The loop's invariant: the table is filled below i. Assumes nothing.
use mathlib.Core.Path.{sym}
use native.Mathlib.Omega.{arith}
use Rattle.base_laws.specs.Tables.{filled_none}
use Rattle.base_laws.proofs.Tables.{filled_turn, filled_end}
use Rattle.base_bytes.proofs.pairs.Goals as goal

pub loop-i-init : goal.loop-i-init
loop-i-init c = sym (filled_none _ _)

pub pair_at-requires : goal.pair_at-requires
pair_at-requires c = omega arith

pub loop-i-preserved : goal.loop-i-preserved
loop-i-preserved c =
    let l = c.loop-i in filled_turn l.i _ _ l.out _ (omega arith) l.invariant c.pair_at.ensures

pub returns : goal.returns
returns c =
    let l = c.loop-i in
    filled_end 256 _ _ l.out l.i (omega arith) l.auto.i-end (omega arith) l.invariant
