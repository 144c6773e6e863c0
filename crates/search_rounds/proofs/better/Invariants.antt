use Rattle.std.proofs.Common.{◌-◌, Some}
use Rattle.search_laws.specs.Tables.{case_of}
use Rattle.search_total.specs.Post.{as_solution}
use Rattle.search_rounds.specs.Post.{Way}
use Rattle.search_rounds.proofs.better.Given as goal

abbrev pub invariant-loop-used : goal.invariant-loop-used
invariant-loop-used l =
    Way (case_of l.sets l.needs l.caps l.costs l.idle) l.rounds (as_solution (Some l.initial.best)) (as_solution (Some l.best)) (l.rounds - l.used)
