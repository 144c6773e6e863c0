use Prim.Native.Nat.{◌≤◌}
use mathlib.Core.Path.{◌≡◌}
use lib.Dec.{ltb}
use Rattle.base_laws.specs.Definitions.{count_below}
use Rattle.search_laws.specs.Floor.{entry_of}
use Rattle.search_judge.proofs.floor.entries.Given as goal

abbrev pub invariant-loop-f : goal.invariant-loop-f
invariant-loop-f l = (l.count ≤ l.f) × (l.count ≡ count_below l.f (λ k. ltb (entry_of l.sheet l.i k) l.e))
