use Prim.Native.Nat.{◌≤◌, ◌*◌, min}
use mathlib.Core.Path.{◌≡◌}
use lib.ListN.{get_or}
use Rattle.base_sum_laws.specs.Definitions.{sum_below}
use Rattle.plan_losses.proofs.served.Given as goal

abbrev pub invariant-loop-f : goal.invariant-loop-f
invariant-loop-f l = (l.total ≤ 16 * l.f) × (l.total ≡ sum_below l.f (λ i. min (get_or l.counts i 0) l.j))
