use Rattle.search_hinted.specs.Stage.{OpenBelow}
use Rattle.search_hinted.proofs.all_allowed.Given as goal

abbrev pub invariant-loop-i : goal.invariant-loop-i
invariant-loop-i l = OpenBelow l.caps l.prices l.i l.rows
