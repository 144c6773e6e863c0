use mathlib.Core.Path.{◌≡◌}
use mathlib.Core.Bool.{Bool, true}
use mathlib.Core.List.{List}
use Prim.Native.Nat.{ℕ}
use lib.Dec.{ltb}
use Rattle.base_laws.specs.Definitions.{all_below}
use Rattle.settings_values.specs.Definitions.{sets, set_of}
use Rattle.settings_check.proofs.nodes_ok.Given as goal

abbrev ok : List ℕ → ℕ → Bool
ok σ n = ltb (set_of σ n) (sets σ)

abbrev pub invariant-loop-i : goal.invariant-loop-i
invariant-loop-i l = all_below l.i (ok l.settings) ≡ true
