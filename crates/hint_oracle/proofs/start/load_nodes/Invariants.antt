use mathlib.Core.Path.{◌≡◌}
use lib.ListN.{length}
use Rattle.hint_oracle.proofs.start.load_nodes.Given as goal

abbrev pub invariant-loop-n : goal.invariant-loop-n
invariant-loop-n l = length l.nodes ≡ 16
