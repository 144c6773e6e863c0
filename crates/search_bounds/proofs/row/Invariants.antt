use Prim.Native.Nat.{◌≤◌, ◌+◌, ◌*◌, min}
use mathlib.Core.Path.{◌≡◌}
use lib.ListN.{get_or}
use Rattle.base_sum_laws.specs.Definitions.{sum_below}
use Rattle.search_bounds.proofs.row.Given as goal

abbrev pub invariant-loop-f : goal.invariant-loop-f
invariant-loop-f l = (l.sum ≤ 65536 * l.f) × (l.sum ≡ sum_below l.f (λ j. min l.want (get_or l.pairs (l.i * 16 + j) 0)))
