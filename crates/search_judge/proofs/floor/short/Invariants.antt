use mathlib.Core.Path.{◌≡◌}
use mathlib.Core.Bool.{false}
use mathlib.Core.List.{[]}
use Rattle.base_laws.specs.Definitions.{any_below}
use Rattle.search_laws.specs.Tables.{case_of}
use Rattle.search_laws.specs.Floor.{short_at}
use Rattle.search_judge.proofs.floor.short.Given as goal

abbrev pub invariant-loop-i : goal.invariant-loop-i
invariant-loop-i l = any_below l.i (short_at (case_of [] l.needs [] [] 0) l.sheet) ≡ false
