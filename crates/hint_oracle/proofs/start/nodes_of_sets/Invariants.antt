use mathlib.Core.Path.{◌≡◌}
use lib.ListN.{length}
use Rattle.hint_oracle.proofs.start.nodes_of_sets.Given as goal

abbrev pub invariant-loop-n : goal.invariant-loop-n
invariant-loop-n l = length l.nodes ≡ 16
