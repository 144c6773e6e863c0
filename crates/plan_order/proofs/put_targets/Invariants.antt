use Prim.Native.Nat.{◌≤◌}
use mathlib.Core.Path.{◌≡◌}
use Rattle.plan_order.specs.Stores.{store_target}
use Rattle.base_laws.specs.Loops.{turns}
use Rattle.plan_order.proofs.put_targets.Given as goal

abbrev pub invariant-loop-s : goal.invariant-loop-s
invariant-loop-s l = (l.count ≤ 16) × (l.body ≡ turns l.s (store_target l.count l.plan) l.initial.body)
