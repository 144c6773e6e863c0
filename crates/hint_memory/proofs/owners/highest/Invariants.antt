use Prim.Native.Nat.{◌<◌}
use Rattle.hint_memory.proofs.owners.highest.Given as goal

abbrev pub invariant-loop-m : goal.invariant-loop-m
invariant-loop-m l = l.top < 131072

abbrev pub decreases-loop-m : goal.decreases-loop-m
decreases-loop-m l = l.m
