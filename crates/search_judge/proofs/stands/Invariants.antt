use mathlib.Core.Path.{◌≡◌}
use mathlib.Core.Bool.{true}
use mathlib.Core.List.{[]}
use Rattle.base_laws.specs.Definitions.{all_below}
use Rattle.search_laws.specs.Tables.{case_of, owners_of}
use Rattle.search_laws.specs.Tests.{stands}
use Rattle.search_judge.proofs.stands.Given as goal

abbrev pub invariant-loop-n : goal.invariant-loop-n
invariant-loop-n l = all_below l.n (stands (case_of [] [] [] l.costs 0) (owners_of l.owner)) ≡ true
