use Rattle.c_placement.specs.Rows.{RowsBelow}
use Rattle.c_placement.proofs.sheet_of.Given as goal

abbrev pub invariant-loop-i : goal.invariant-loop-i
invariant-loop-i l = RowsBelow l.sets l.costs l.i l.rows
