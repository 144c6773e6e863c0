use Prim.Native.Nat.{◌≤◌, ◌*◌}
use mathlib.Core.Path.{◌≡◌}
use lib.ListN.{get_or}
use Rattle.base_sum_laws.specs.Definitions.{sum_below}
use Rattle.search_bounds.proofs.weighted.Given as goal

abbrev pub invariant-loop-i : goal.invariant-loop-i
invariant-loop-i l = (l.sum ≤ 16777216 * l.i) × (l.sum ≡ sum_below l.i (λ j. get_or l.counts j 0 * get_or l.weights j 0))
