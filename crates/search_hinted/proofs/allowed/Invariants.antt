use Prim.Native.Nat.{ℕ, ◌+◌, ◌*◌}
use mathlib.Core.Path.{◌≡◌}
use mathlib.Core.Bool.{Bool}
use mathlib.Core.List.{List}
use lib.Dec.{ltb}
use lib.ListN.{get_or}
use Rattle.base_sum_laws.specs.Definitions.{mask_below}
use Rattle.search_hinted.proofs.allowed.Given as goal

-- node n is allowed in shard i
abbrev fine : List ℕ → ℕ → ℕ → Bool
fine prices i n = ltb (get_or prices (i * 32 + n) 0) 255

abbrev pub invariant-loop-n : goal.invariant-loop-n
invariant-loop-n l = l.m ≡ mask_below l.n (fine l.prices l.i)
