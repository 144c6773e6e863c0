use Prim.Native.Nat.{◌≤◌, ◌/◌}
use Rattle.search_laws.specs.Tables.{case_of}
use Rattle.search_bounds.specs.Post.{weights_of}
use Rattle.search_bounds.specs.Rows.{RowsPassed}
use Rattle.search_bounds.proofs.cut.Given as goal

abbrev pub invariant-loop-i : goal.invariant-loop-i
invariant-loop-i l = (l.t / 32 ≤ l.i) × RowsPassed (case_of l.sets l.needs l.caps l.costs l.idle) (weights_of l.wants l.rooms l.nodes l.pairs) l.free l.t l.low l.high l.i l.initial.rows l.rows
