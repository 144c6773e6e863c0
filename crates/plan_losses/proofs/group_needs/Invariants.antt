use Prim.Native.Nat.{◌≤◌, ◌*◌}
use mathlib.Core.Path.{◌≡◌}
use Rattle.base_sum_laws.specs.Definitions.{sum_below}
use Rattle.plan_losses.specs.Needs.{need_of}
use Rattle.plan_losses.proofs.group_needs.Given as goal

abbrev pub invariant-loop-s : goal.invariant-loop-s
invariant-loop-s l = (l.total ≡ sum_below l.s (need_of l.settings l.g l.k)) × (l.total ≤ 16 * l.s)
