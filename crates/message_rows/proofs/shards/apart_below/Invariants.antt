use mathlib.Core.Path.{◌≡◌}
use mathlib.Core.Bool.{Bool, true}
use mathlib.Core.List.{List}
use Prim.Native.Nat.{ℕ}
use lib.ListN.{get_or}
use Rattle.base_laws.specs.Definitions.{all_below}
use Rattle.message_format.specs.Definitions.{shard_apart}
use Rattle.message_rows.proofs.shards.apart_below.Given as goal

abbrev ok : List ℕ → List ℕ → ℕ → ℕ → Bool
ok σ m s = shard_apart σ (λ i. get_or m i 0) s

abbrev pub invariant-loop-t : goal.invariant-loop-t
invariant-loop-t l = all_below l.t (ok l.settings l.masks l.s.0) ≡ true
