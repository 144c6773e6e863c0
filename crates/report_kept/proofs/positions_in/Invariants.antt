use mathlib.Core.Path.{◌≡◌}
use lib.ListN.{replicate}
use Rattle.base_laws.specs.Tables.{filled}
use Rattle.report_views.specs.Definitions.{start}
use Rattle.report_kept.specs.Words.{position_in}
use Rattle.report_kept.proofs.positions_in.Given as goal

abbrev pub invariant-loop-s : goal.invariant-loop-s
invariant-loop-s l = l.positions ≡ filled l.s (position_in l.body l.count) (replicate 16 start)
