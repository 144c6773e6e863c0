use Prim.Native.Nat.{◌+◌, ◌*◌, ◌<◌}
use mathlib.Core.Path.{◌≡◌}
use lib.ListN.{get_or}
use Rattle.place_laws.specs.Tables.{costs_below}
use Rattle.place_tables.proofs.cost_row.Given as goal

abbrev pub invariant-loop-n : goal.invariant-loop-n
invariant-loop-n l = (l.s < 16) × (l.table ≡ costs_below l.settings l.held (λ i. get_or l.old i 0) l.g (l.s * 32 + l.n))
