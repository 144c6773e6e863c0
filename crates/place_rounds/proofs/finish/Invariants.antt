use lib.ListN.{get_or}
use Rattle.place_rounds.specs.Post.{EndedSoFar}
use Rattle.place_rounds.proofs.finish.Given as goal

abbrev pub invariant-loop-g : goal.invariant-loop-g
invariant-loop-g l = EndedSoFar l.settings l.held (λ s. get_or l.old s 0) l.g l.masks l.total l.floor
