use Prim.Native.Nat.{◌≤◌}
use mathlib.Core.Path.{◌≡◌}
use Rattle.base_laws.specs.Definitions.{count_below}
use Rattle.plan_losses.specs.Needs.{held_of}
use Rattle.plan_losses.proofs.held_in.Given as goal

abbrev pub invariant-loop-n : goal.invariant-loop-n
invariant-loop-n l = (l.total ≤ l.n) × (l.total ≡ count_below l.n (held_of l.settings l.held l.f))
