use Rattle.search_judge.specs.Met.{Met}
use Rattle.search_judge.proofs.met.Given as goal

abbrev pub invariant-loop-n : goal.invariant-loop-n
invariant-loop-n l = Met l.owner l.sets l.i l.n l.m
