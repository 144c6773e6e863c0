use Rattle.search_hinted.specs.Stage.{Later}
use Rattle.search_hinted.proofs.later.Given as goal

abbrev pub invariant-loop-j : goal.invariant-loop-j
invariant-loop-j l = Later l.rows l.i l.j l.m
