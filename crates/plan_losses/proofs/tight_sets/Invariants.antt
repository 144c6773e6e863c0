use Rattle.plan_losses.specs.Needs.{Tight}
use Rattle.plan_losses.proofs.tight_sets.Given as goal

abbrev pub invariant-loop-s : goal.invariant-loop-s
invariant-loop-s l = Tight l.settings l.held l.tight
