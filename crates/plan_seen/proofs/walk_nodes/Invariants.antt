use Rattle.plan_seen.specs.Turns.{WalkedTo}
use Rattle.base_lent.specs.Definitions.{words_in}
use Rattle.plan_seen.proofs.walk_nodes.Given as goal

abbrev pub invariant-loop-n : goal.invariant-loop-n
invariant-loop-n l = WalkedTo l.settings l.v l.t l.held (words_in l.desk) l.n l.b l.holders l.tops
