use mathlib.Core.Path.{◌≡◌}
use lib.ListN.{length}
use Rattle.hint_oracle.proofs.levels.weigh_row.Given as goal

abbrev pub invariant-loop-m : goal.invariant-loop-m
invariant-loop-m l = length l.w ≡ length l.initial.w

abbrev pub decreases-loop-m : goal.decreases-loop-m
decreases-loop-m l = l.m
