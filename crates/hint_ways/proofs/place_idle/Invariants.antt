use Prim.Native.Nat.{◌≤◌}
use Rattle.hint_ways.proofs.place_idle.Given as goal

abbrev pub invariant-loop-m : goal.invariant-loop-m
invariant-loop-m l = 0 ≤ l.m

abbrev pub decreases-loop-m : goal.decreases-loop-m
decreases-loop-m l = l.m
