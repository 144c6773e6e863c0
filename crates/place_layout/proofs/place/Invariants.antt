use mathlib.Core.Path.{◌≡◌}
use mathlib.Core.Bool.{true}
use lib.ListN.{get_or}
use Rattle.place_layout.specs.Post.{LaidSoFar}
use Rattle.place_layout.proofs.place.Given as goal

abbrev pub invariant-loop-g : goal.invariant-loop-g
invariant-loop-g l = (l.placed.found ≡ true) × LaidSoFar l.settings l.held (λ s. get_or l.old s 0) l.g l.placed
