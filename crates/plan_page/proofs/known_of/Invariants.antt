use mathlib.Core.Path.{◌≡◌}
use Rattle.base_sum_laws.specs.Definitions.{mask_below}
use Rattle.report_views.specs.Definitions.{node_at}
use Rattle.plan_page.specs.Definitions.{shown}
use Rattle.plan_page.proofs.known_of.Given as goal

abbrev pub invariant-loop-s : goal.invariant-loop-s
invariant-loop-s l = l.mask ≡ mask_below l.s (shown l.settings l.g (node_at l.holders))
