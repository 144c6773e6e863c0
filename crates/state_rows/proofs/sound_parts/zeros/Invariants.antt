use Prim.Native.Nat.{ℕ, ◌≤◌}
use mathlib.Core.Bool.{Bool, true}
use mathlib.Core.List.{List}
use mathlib.Core.Path.{◌≡◌}
use lib.Dec.{eqb}
use lib.ListN.{get_or, length}
use Rattle.base_laws.specs.Definitions.{all_below}
use Rattle.state_rows.proofs.sound_parts.zeros.Given as goal

abbrev zero-at : List ℕ → ℕ → Bool
zero-at l i = eqb (get_or l i 0) 0

abbrev pub invariant-loop-i : goal.invariant-loop-i
invariant-loop-i v = (v.i ≤ length v.l) × (all_below v.i (zero-at v.l) ≡ true)
