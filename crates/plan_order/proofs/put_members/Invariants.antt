use Prim.Native.Nat.{◌≤◌}
use mathlib.Core.Path.{◌≡◌}
use Rattle.plan_order.specs.Stores.{store_members}
use Rattle.base_laws.specs.Loops.{turns}
use Rattle.plan_order.proofs.put_members.Given as goal

abbrev pub invariant-loop-s : goal.invariant-loop-s
invariant-loop-s l = (l.count ≤ 16) × (l.body ≡ turns l.s (store_members l.layout) l.initial.body)
