use Rattle.c_placement.specs.Rows.{RowBelow}
use Rattle.c_placement.proofs.row.Given as goal

abbrev pub invariant-loop-n : goal.invariant-loop-n
invariant-loop-n l = RowBelow l.sets l.costs l.i l.n l.r
