use Prim.Native.Nat.{◌≤◌, ◌*◌, ◌+◌}
use mathlib.Core.Path.{◌≡◌}
use mathlib.Core.Bool.{cond}
use lib.Dec.{ltb}
use lib.ListN.{get_or}
use Rattle.base_sum_laws.specs.Definitions.{sum_below}
use Rattle.search_laws.specs.Tables.{owners_of}
use Rattle.search_judge.proofs.weight.Given as goal

abbrev pub invariant-loop-n : goal.invariant-loop-n
invariant-loop-n l = (l.sum ≤ 256 * l.n) × (l.sum ≡ sum_below l.n (λ m. cond (ltb (owners_of l.owner m) 16) (get_or l.costs (owners_of l.owner m * 32 + m) 0) l.idle))
