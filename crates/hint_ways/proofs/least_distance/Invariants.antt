use Prim.Native.Nat.{◌<◌}
use Rattle.hint_ways.proofs.least_distance.Given as goal

abbrev pub invariant-loop-m : goal.invariant-loop-m
invariant-loop-m l = l.d < 65536

abbrev pub decreases-loop-m : goal.decreases-loop-m
decreases-loop-m l = l.m
