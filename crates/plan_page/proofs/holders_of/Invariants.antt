use mathlib.Core.Path.{◌≡◌}
use lib.ListN.{replicate}
use Rattle.base_laws.specs.Tables.{filled}
use Rattle.base_ids.specs.declared.Node.{Node}
use Rattle.report_views.specs.Definitions.{node_at}
use Rattle.plan_page.specs.Definitions.{holder_shown}
use Rattle.plan_page.proofs.holders_of.Given as goal

abbrev nobody : Node
nobody = record { 0 = 0 }

abbrev pub invariant-loop-s : goal.invariant-loop-s
invariant-loop-s l = l.list ≡ filled l.s (holder_shown l.settings l.g (node_at l.holders)) (replicate 16 nobody)
