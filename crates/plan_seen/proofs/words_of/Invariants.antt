use mathlib.Core.Path.{◌≡◌}
use lib.ListN.{replicate}
use Rattle.base_laws.specs.Tables.{filled}
use Rattle.plan_seen.specs.Nodes.{word_of_pairs}
use Rattle.plan_seen.proofs.words_of.Given as goal

abbrev pub invariant-loop-k : goal.invariant-loop-k
invariant-loop-k l = l.words ≡ filled l.k (word_of_pairs l.b) (replicate 512 0)
