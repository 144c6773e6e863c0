use Prim.Native.Nat.{◌*◌, ◌≤◌}
use Rattle.hint_oracle.proofs.start.enter_rooms.Given as goal

abbrev pub invariant-loop-i : goal.invariant-loop-i
invariant-loop-i l = (l.count ≤ 16) × (l.free ≤ l.i * 65536)
