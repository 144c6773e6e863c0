use Rattle.base_lent.specs.Definitions.{words_in}
use Rattle.plan_masks.specs.Turns.{CountedTo}
use Rattle.plan_masks.proofs.count.Given as goal

abbrev pub invariant-loop-n : goal.invariant-loop-n
invariant-loop-n l = CountedTo l.settings l.v l.t l.all (words_in l.desk) l.n l.masks
