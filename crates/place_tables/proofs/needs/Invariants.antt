use mathlib.Core.Path.{◌≡◌}
use lib.ListN.{replicate}
use Rattle.base_laws.specs.Tables.{filled}
use Rattle.place_laws.specs.Cases.{need_in}
use Rattle.place_tables.proofs.needs.Given as goal

abbrev pub invariant-loop-s : goal.invariant-loop-s
invariant-loop-s l = l.table ≡ filled l.s (need_in l.settings l.g) (replicate 16 0)
