use Prim.Native.Nat.{ℕ}
use mathlib.Core.Path.{◌≡◌}
use mathlib.Core.List.{List}
use lib.ListN.{get_or, replicate}
use Rattle.base_laws.specs.Definitions.{tabulate}
use Rattle.base_laws.specs.Tables.{filled}
use Rattle.place_groups.specs.Sheet.{sheet_at}
use Rattle.place_groups.proofs.sheet.sheet.Given as goal

-- no row yet
abbrev blank : List ℕ
blank = replicate 16 2

-- the row of shard s
abbrev row_of : List ℕ → ℕ → List ℕ → ℕ → List ℕ
row_of σ held old s = tabulate 16 (sheet_at σ held (λ i. get_or old i 0) s)

abbrev pub invariant-loop-s : goal.invariant-loop-s
invariant-loop-s l = l.rows ≡ filled l.s (row_of l.settings l.held l.old) (replicate 16 blank)
