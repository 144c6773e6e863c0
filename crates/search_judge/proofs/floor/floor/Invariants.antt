use Prim.Native.Nat.{◌*◌, ◌≤◌}
use mathlib.Core.Path.{◌≡◌}
use mathlib.Core.List.{[]}
use Rattle.base_sum_laws.specs.Definitions.{sum_below}
use Rattle.search_laws.specs.Tables.{case_of}
use Rattle.search_laws.specs.Floor.{lack_at}
use Rattle.search_judge.proofs.floor.floor.Given as goal

abbrev pub invariant-loop-i : goal.invariant-loop-i
invariant-loop-i l = (l.sum ≤ l.i * 256) × (l.sum ≡ sum_below l.i (lack_at (case_of [] l.needs [] [] 0) l.sheet))
