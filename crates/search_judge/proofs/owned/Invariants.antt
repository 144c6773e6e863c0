use Prim.Native.Nat.{◌≤◌}
use mathlib.Core.Path.{◌≡◌}
use lib.Dec.{eqb}
use Rattle.base_laws.specs.Definitions.{count_below}
use Rattle.search_laws.specs.Tables.{owners_of}
use Rattle.search_judge.proofs.owned.Given as goal

abbrev pub invariant-loop-n : goal.invariant-loop-n
invariant-loop-n l = (l.count ≤ l.n) × (l.count ≡ count_below l.n (λ m. eqb (owners_of l.owner m) l.i))
