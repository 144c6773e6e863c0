use Prim.Native.Nat.{ℕ}
use mathlib.Core.Path.{◌≡◌}
use mathlib.Core.Bool.{Bool}
use mathlib.Core.List.{List}
use lib.Dec.{eqb}
use Rattle.search_laws.specs.Tables.{owners_of}
use Rattle.base_sum_laws.specs.Definitions.{mask_below}
use Rattle.place_layout.proofs.owned_by.Given as goal

-- shard s owns node n
abbrev owns : List ℕ → ℕ → ℕ → Bool
owns o s n = eqb (owners_of o n) s

abbrev pub invariant-loop-n : goal.invariant-loop-n
invariant-loop-n l = l.mask ≡ mask_below l.n (owns l.owners l.s.0)
