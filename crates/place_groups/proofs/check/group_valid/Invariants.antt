use Prim.Native.Nat.{ℕ}
use mathlib.Core.Bool.{Bool, true}
use mathlib.Core.List.{List}
use mathlib.Core.Path.{◌≡◌}
use lib.ListN.{get_or}
use Rattle.base_laws.specs.Definitions.{all_below}
use Rattle.place_groups.specs.Definitions.{group_valid_at}
use Rattle.place_groups.proofs.check.group_valid.Given as goal

abbrev ok : List ℕ → ℕ → List ℕ → ℕ → ℕ → Bool
ok σ held masks g = group_valid_at σ held (λ i. get_or masks i 0) g

abbrev pub invariant-loop-s : goal.invariant-loop-s
invariant-loop-s l = all_below l.s (ok l.settings l.held l.masks l.g) ≡ true
