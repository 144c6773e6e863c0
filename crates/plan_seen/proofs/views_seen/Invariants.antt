use mathlib.Core.Path.{◌≡◌}
use Rattle.base_ids.specs.declared.View.{View}
use lib.ListN.{replicate}
use Rattle.base_lent.specs.Definitions.{words_in}
use Rattle.base_laws.specs.Tables.{filled}
use Rattle.plan_seen.specs.Sight.{view_seen}
use Rattle.plan_seen.proofs.views_seen.Given as goal

abbrev none : View
none = record { 0 = 0 }

abbrev pub invariant-loop-n : goal.invariant-loop-n
invariant-loop-n l = l.views ≡ filled l.n (view_seen l.held (words_in l.desk)) (replicate 32 none)
