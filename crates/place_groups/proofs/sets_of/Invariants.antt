use mathlib.Core.Path.{◌≡◌}
use Rattle.place_groups.specs.Sets.{sets_below}
use Rattle.place_groups.proofs.sets_of.Given as goal

abbrev pub invariant-loop-n : goal.invariant-loop-n
invariant-loop-n l = l.seen ≡ sets_below l.settings l.mask l.n
