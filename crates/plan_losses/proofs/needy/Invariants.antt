use Prim.Native.Nat.{◌≤◌}
use mathlib.Core.Path.{◌≡◌}
use Rattle.base_laws.specs.Definitions.{count_below}
use Rattle.plan_losses.specs.Needs.{needs_at}
use Rattle.plan_losses.proofs.needy.Given as goal

abbrev pub invariant-loop-s : goal.invariant-loop-s
invariant-loop-s l = (l.total ≤ l.s) × (l.total ≡ count_below l.s (needs_at l.settings l.g l.k))
