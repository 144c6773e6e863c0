use Prim.Native.Nat.{ℕ, ◌+◌}
use mathlib.Core.Path.{◌≡◌}
use mathlib.Core.Bool.{Bool}
use mathlib.Core.List.{List}
use lib.Dec.{ltb}
use lib.ListN.{get_or}
use Rattle.base_sum_laws.specs.Definitions.{mask_below}
use Rattle.search_bounds.proofs.must.Given as goal

-- node n's bound, placed nowhere, is above what is allowed
abbrev above : List ℕ → ℕ → ℕ → ℕ → ℕ → Bool
above nodes idle low high n = ltb (low + 16384) (high + (idle + get_or nodes n 0))

abbrev pub invariant-loop-n : goal.invariant-loop-n
invariant-loop-n l = l.m ≡ mask_below l.n (above l.nodes l.idle l.low l.high)
