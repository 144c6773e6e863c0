use Prim.Native.Nat.{◌≤◌, ◌*◌}
use mathlib.Core.Path.{◌≡◌}
use lib.ListN.{get_or}
use Rattle.base_sum_laws.specs.Definitions.{sum_below}
use Rattle.search_bounds.proofs.all_nodes.Given as goal

abbrev pub invariant-loop-n : goal.invariant-loop-n
invariant-loop-n l = (l.sum ≤ 65536 * l.n) × (l.sum ≡ sum_below l.n (λ j. get_or l.nodes j 0))
