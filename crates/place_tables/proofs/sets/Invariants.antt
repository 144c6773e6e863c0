use mathlib.Core.Path.{◌≡◌}
use lib.ListN.{replicate}
use Rattle.base_laws.specs.Tables.{filled}
use Rattle.place_laws.specs.Cases.{set_in}
use Rattle.place_tables.proofs.sets.Given as goal

abbrev pub invariant-loop-n : goal.invariant-loop-n
invariant-loop-n l = l.table ≡ filled l.n (set_in l.settings) (replicate 32 0)
