-- `c_placement::sheet_of` meets its contract. The invariant: the rows of the shards below i are made. Assumes nothing.
use lib.ListN.{replicate}
use Rattle.c_placement.specs.Rows.{rows_start, rows_turn, rows_end}
use Rattle.c_placement.proofs.sheet_of.Goals as goal

pub loop-i-init : goal.loop-i-init
loop-i-init c = rows_start c.args.sets.now c.args.costs.now (replicate 16 2)

pub loop-i-preserved : goal.loop-i-preserved
loop-i-preserved c = rows_turn c.row.result c.loop-i-test.true c.loop-i.invariant c.row.ensures

pub returns : goal.returns
returns c =
    let a = c.args in rows_end a.needs.now a.caps.now a.idle c.loop-i-test.false c.loop-i.invariant
