use Rattle.plan_losses.specs.Losses.{PlacedBelow}
use Rattle.plan_losses.proofs.stays_placed.Given as goal

abbrev pub invariant-loop-g : goal.invariant-loop-g
invariant-loop-g l = PlacedBelow l.settings l.held l.g
