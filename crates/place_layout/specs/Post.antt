-- The promises of the placement of all four subgroups, from the settings σ, the mask of held nodes and the members that each shard
-- had in the kept view (old).
use Rattle.std.specs.Prelude.{◌≡◌, true, false, List, ℕ, ◌+◌, ◌*◌, ◌≤◌, ◌<◌, length, replicate}
use Rattle.base_sum_laws.specs.Definitions.{sum_below}
use Rattle.settings_values.specs.Definitions.{shards}
use Rattle.place_groups.specs.Definitions.{group_moves, LowestUnplaced, Chosen}
use Rattle.place_laws.specs.Definitions.{masks_of}
use Rattle.place_layout.specs.declared.Placed.{Placed}

-- the first k subgroups have their chosen placement each, with the sum of their moves; nothing stands from S up
pub record Laid (σ : List ℕ) (held : ℕ) (old : ℕ → ℕ) (k : ℕ) (p : Placed) : Type 0 where
  pub chosen : (h : ℕ) → h < k → Chosen σ held old (masks_of p.masks) h
  pub total : p.total ≡ sum_below k (group_moves σ old (masks_of p.masks))
  pub rest : (s : ℕ) → shards σ ≤ s → masks_of p.masks s ≡ 0
  pub sized : length p.masks ≡ 16
  pub group : p.group ≡ 0

-- the lowest subgroup without a valid placement, and nothing placed
pub record Unplaced (σ : List ℕ) (held : ℕ) (p : Placed) : Type 0 where
  pub lowest : LowestUnplaced σ held p.group
  pub masks : p.masks ≡ replicate 16 0
  pub total : p.total ≡ 0

-- all four subgroups are placed, or the lowest without a valid placement is named
pub record Placement (σ : List ℕ) (held : ℕ) (old : ℕ → ℕ) (p : Placed) : Type 0 where
  pub laid : p.found ≡ true → Laid σ held old 4 p
  pub unplaced : p.found ≡ false → Unplaced σ held p

-- on the way: the first k subgroups are placed, with at most 32 moves each
pub record LaidSoFar (σ : List ℕ) (held : ℕ) (old : ℕ → ℕ) (k : ℕ) (p : Placed) : Type 0 where
  pub laid : Laid σ held old k p
  pub small : p.total ≤ 32 * k

-- one subgroup more, or the lowest without a valid placement
pub record OneMore (σ : List ℕ) (held : ℕ) (old : ℕ → ℕ) (g : ℕ) (p : Placed) : Type 0 where
  pub more : p.found ≡ true → LaidSoFar σ held old (g + 1) p
  pub unplaced : p.found ≡ false → Unplaced σ held p
