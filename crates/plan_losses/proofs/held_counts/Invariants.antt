use mathlib.Core.Path.{◌≡◌}
use lib.ListN.{replicate}
use Rattle.base_laws.specs.Tables.{filled}
use Rattle.plan_losses.specs.Needs.{held_in}
use Rattle.plan_losses.proofs.held_counts.Given as goal

abbrev pub invariant-loop-f : goal.invariant-loop-f
invariant-loop-f l = l.counts ≡ filled l.f (held_in l.settings l.held) (replicate 16 0)
