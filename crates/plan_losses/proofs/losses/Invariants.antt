use Rattle.plan_losses.specs.Losses.{quorums_in, LostBelow}
use Rattle.plan_losses.proofs.losses.Given as goal

abbrev pub invariant-loop-n : goal.invariant-loop-n
invariant-loop-n l = LostBelow l.settings l.held (quorums_in l.settings l.v l.masks) l.n l.lost
