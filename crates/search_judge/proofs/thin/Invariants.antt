use Prim.Native.Nat.{◌/◌}
use mathlib.Core.Path.{◌≡◌}
use mathlib.Core.Bool.{false}
use mathlib.Core.List.{[]}
use lib.Dec.{ltb}
use lib.ListN.{get_or}
use Rattle.search_laws.specs.Tables.{case_of, owners_of}
use Rattle.base_laws.specs.Definitions.{any_below}
use Rattle.search_laws.specs.Case.{spread}
use Rattle.search_judge.proofs.thin.Given as goal

abbrev pub invariant-loop-i : goal.invariant-loop-i
invariant-loop-i l = (l.e ≡ l.t / 32) × (any_below l.i (λ j. ltb (spread (case_of l.sets [] [] [] 0) (owners_of l.owner) j) (get_or l.needs j 0)) ≡ false)
