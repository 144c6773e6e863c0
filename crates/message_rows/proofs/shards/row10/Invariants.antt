use mathlib.Core.Path.{◌≡◌}
use mathlib.Core.Bool.{Bool, true}
use mathlib.Core.List.{List}
use Prim.Native.Nat.{ℕ}
use lib.ListN.{get_or}
use Rattle.base_laws.specs.Definitions.{all_below}
use Rattle.message_format.specs.Definitions.{row10_at}
use Rattle.message_rows.proofs.shards.row10.Given as goal

abbrev ok : List ℕ → ℕ → List ℕ → ℕ → Bool
ok σ members m = row10_at σ members (λ i. get_or m i 0)

abbrev pub invariant-loop-s : goal.invariant-loop-s
invariant-loop-s l = all_below l.s (ok l.settings l.members l.masks) ≡ true
