-- The order of placements by their lists: shards ascending, each shard's nodes listed ascending, and the smaller list in
-- dictionary order wins at the first shard that differs; a proper prefix is smaller. What the search finds first is first in it.
use Rattle.std.specs.Prelude.{◌≡◌, List, ℕ, ◌<◌}
use Rattle.std.proofs.Math.Bool.{true}
use Rattle.std.proofs.Math.Dec.{eqb}
use Rattle.base_sum_laws.specs.Definitions.{list_from, list_before}

-- the nodes of shard i, ascending
unfoldable pub nodes_of : (ℕ → ℕ) → ℕ → List ℕ
nodes_of z i = list_from 0 32 (λ n. eqb (z n) i)

-- at the first shard that differs, z's list is the smaller
pub record Earlier (z y : ℕ → ℕ) : Type 0 where
  pub shard : ℕ
  pub below : shard < 16
  pub alike : (j : ℕ) → j < shard → nodes_of z j ≡ nodes_of y j
  pub smaller : list_before (nodes_of z shard) (nodes_of y shard) ≡ true

-- every shard has the same list
pub record SameLists (z y : ℕ → ℕ) : Type 0 where
  pub alike : (j : ℕ) → j < 16 → nodes_of z j ≡ nodes_of y j
