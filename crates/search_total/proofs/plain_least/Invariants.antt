use Rattle.search_laws.specs.Tables.{case_of}
use Rattle.search_total.specs.Answers.{WeightReached}
use Rattle.search_total.proofs.plain_least.Given as goal

abbrev pub invariant-loop-k : goal.invariant-loop-k
invariant-loop-k l = WeightReached (case_of l.sets l.needs l.caps l.costs l.idle) l.k

abbrev pub decreases-loop-k : goal.decreases-loop-k
decreases-loop-k l = l.k
