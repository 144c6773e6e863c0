use Prim.Native.Nat.{ℕ, ◌≤◌, ◌*◌}
use mathlib.Core.List.{List}
use mathlib.Core.Path.{◌≡◌}
use lib.ListN.{get_or}
use Rattle.base_sum_laws.specs.Definitions.{sum_below}
use Rattle.place_groups.specs.Definitions.{group_moves_at}
use Rattle.place_groups.proofs.check.group_moves.Given as goal

abbrev at : List ℕ → List ℕ → List ℕ → ℕ → ℕ → ℕ
at σ old masks g = group_moves_at σ (λ i. get_or old i 0) (λ i. get_or masks i 0) g

abbrev pub invariant-loop-s : goal.invariant-loop-s
invariant-loop-s l = (l.total ≡ sum_below l.s (at l.settings l.old l.masks l.g)) × (l.total ≤ 32 * l.s)
