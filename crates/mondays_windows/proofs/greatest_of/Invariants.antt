use mathlib.Core.Path.{◌≡◌}
use lib.ListN.{take}
use Rattle.mondays_windows.specs.Definitions.{greatest_of}
use Rattle.mondays_windows.proofs.greatest_of.Given as goal

abbrev pub invariant-loop-x : goal.invariant-loop-x
invariant-loop-x l = l.greatest ≡ greatest_of (take l.x-index l.moves)
