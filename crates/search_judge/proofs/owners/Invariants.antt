use Rattle.search_judge.specs.Owners.{OwnersHeld}
use Rattle.search_judge.proofs.owners.Given as goal

abbrev pub invariant-loop-n : goal.invariant-loop-n
invariant-loop-n l = OwnersHeld l.owner l.n l.m
