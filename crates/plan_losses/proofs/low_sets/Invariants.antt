use Rattle.plan_losses.specs.Needs.{LowBelow}
use Rattle.plan_losses.proofs.low_sets.Given as goal

abbrev pub invariant-loop-f : goal.invariant-loop-f
invariant-loop-f l = LowBelow l.counts l.j l.f l.sets
