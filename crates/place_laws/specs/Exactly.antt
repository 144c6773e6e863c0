-- Where every cap of a subgroup is its shard's need, a valid placement gives each shard exactly as many nodes as it needs, each of another
-- failure set. So placements of as many moves have as many stays, and the choice is the first of the placements of least moves.
use Rattle.std.specs.Prelude.{◌≡◌, true, List, ℕ}
use Rattle.base_laws.specs.Definitions.{count}
use Rattle.settings_values.specs.Definitions.{need, cap}
use Rattle.place_groups.specs.Definitions.{sets_in, of_group}

-- every cap of subgroup g is its shard's need
pub record CapsAtNeeds (σ : List ℕ) (g : ℕ) : Type 0 where
  pub at : (s : ℕ) → of_group σ g s ≡ true → cap σ s ≡ need σ s

-- shard s has exactly as many nodes as it needs, each of another failure set
pub record ShardExact (σ : List ℕ) (masks : ℕ → ℕ) (s : ℕ) : Type 0 where
  pub sized : count (masks s) ≡ need σ s
  pub spreads : sets_in σ (masks s) ≡ need σ s
