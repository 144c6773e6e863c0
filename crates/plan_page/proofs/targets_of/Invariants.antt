use mathlib.Core.Path.{◌≡◌}
use lib.ListN.{replicate, get_or}
use Rattle.base_laws.specs.Tables.{filled}
use Rattle.report_views.specs.Definitions.{start, node_at}
use Rattle.plan_page.specs.Definitions.{target_shown}
use Rattle.plan_page.proofs.targets_of.Given as goal

abbrev pub invariant-loop-s : goal.invariant-loop-s
invariant-loop-s l = l.list ≡ filled l.s (target_shown l.settings l.g (node_at l.holders) (λ k. get_or l.targets k start)) (replicate 16 start)
