use Prim.Native.Nat.{◌*◌}
use mathlib.Core.Path.{◌≡◌}
use lib.ListN.{get_or}
use Rattle.place_laws.specs.Tables.{costs_below}
use Rattle.place_tables.proofs.costs.Given as goal

abbrev pub invariant-loop-s : goal.invariant-loop-s
invariant-loop-s l = l.table ≡ costs_below l.settings l.held (λ i. get_or l.old i 0) l.g (l.s * 32)
