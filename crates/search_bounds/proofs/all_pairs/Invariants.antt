use Prim.Native.Nat.{◌≤◌, ◌+◌, ◌*◌, min}
use mathlib.Core.Path.{◌≡◌}
use lib.ListN.{get_or}
use Rattle.base_sum_laws.specs.Definitions.{sum_below}
use Rattle.search_bounds.proofs.all_pairs.Given as goal

abbrev pub invariant-loop-i : goal.invariant-loop-i
invariant-loop-i l = (l.sum ≤ 1048576 * l.i) × (l.sum ≡ sum_below l.i (λ j. sum_below 16 (λ f. min (get_or l.wants j 0) (get_or l.pairs (j * 16 + f) 0))))
