use mathlib.Core.Path.{◌≡◌}
use mathlib.Core.Bool.{true}
use mathlib.Core.List.{[]}
use Rattle.search_laws.specs.Tables.{case_of, owners_of}
use Rattle.base_laws.specs.Definitions.{all_below}
use Rattle.search_laws.specs.Tests.{needs_met}
use Rattle.search_judge.specs.Owners.{OwnersHeld}
use Rattle.search_judge.proofs.filled.Given as goal

abbrev pub invariant-loop-i : goal.invariant-loop-i
invariant-loop-i l = OwnersHeld l.owner 32 l.used × (all_below l.i (needs_met (case_of l.sets l.needs l.caps [] 0) (owners_of l.owner)) ≡ true)
