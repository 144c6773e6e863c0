use mathlib.Core.Path.{◌≡◌}
use lib.ListN.{length}
use Rattle.hint_oracle.proofs.levels.nodes.Given as goal

abbrev pub invariant-loop-m : goal.invariant-loop-m
invariant-loop-m l = length l.v ≡ length l.initial.v

abbrev pub decreases-loop-m : goal.decreases-loop-m
decreases-loop-m l = l.m
