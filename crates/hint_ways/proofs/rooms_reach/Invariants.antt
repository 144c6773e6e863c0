use Prim.Native.Nat.{◌≤◌}
use Rattle.hint_ways.proofs.rooms_reach.Given as goal

abbrev pub invariant-loop-i : goal.invariant-loop-i
invariant-loop-i l = l.count ≤ 16
