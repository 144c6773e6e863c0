use mathlib.Core.Path.{◌≡◌}
use lib.ListN.{replicate}
use Rattle.base_laws.specs.Tables.{filled}
use Rattle.report_rows.specs.Definitions.{noted_at}
use Rattle.report_rows.proofs.latest.note.Given as goal

abbrev pub invariant-loop-n : goal.invariant-loop-n
invariant-loop-n l = l.views ≡ filled l.n (noted_at l.latest l.node.0 l.view.0) (replicate 32 (record { 0 = 0 }))
