use Prim.Native.Nat.{ℕ}
use mathlib.Core.Path.{◌≡◌}
use mathlib.Core.Bool.{Bool}
use mathlib.Core.List.{List}
use lib.Dec.{leb}
use lib.ListN.{get_or}
use Rattle.base_sum_laws.specs.Definitions.{mask_below}
use Rattle.search_bounds.proofs.unowned.Given as goal

-- node n has no owner
abbrev bare : List ℕ → ℕ → Bool
bare o n = leb 16 (get_or o n 0)

abbrev pub invariant-loop-n : goal.invariant-loop-n
invariant-loop-n l = l.m ≡ mask_below l.n (bare l.owner)
