use Prim.Native.Nat.{min}
use lib.ListN.{get_or}
use Rattle.place_rounds.specs.Post.{ReachedSoFar}
use Rattle.place_rounds.proofs.improve.Given as goal

abbrev pub invariant-loop-g : goal.invariant-loop-g
invariant-loop-g l = ReachedSoFar l.settings l.held (λ s. get_or l.old s 0) (min l.rounds 128) l.g l.masks l.total l.floor l.left
