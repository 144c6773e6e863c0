use mathlib.Core.Path.{◌≡◌}
use lib.ListN.{replicate}
use Rattle.base_laws.specs.Tables.{filled}
use Rattle.place_groups.specs.Laws.{entry_by}
use Rattle.place_groups.proofs.sheet.row.Given as goal

abbrev pub invariant-loop-f : goal.invariant-loop-f
invariant-loop-f l = l.r ≡ filled l.f (entry_by l.settings l.stay l.any l.s.0) (replicate 16 2)
