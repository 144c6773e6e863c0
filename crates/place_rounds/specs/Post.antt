-- The promises of the rounds, from the settings σ, the mask of held nodes and the members that each shard had in the kept view (old).
use Rattle.std.specs.Prelude.{◌≡◌, true, false, List, ◌⊎◌, ℕ, ◌+◌, ◌*◌, ◌≤◌, ◌<◌, length, replicate}
use Rattle.base_sum_laws.specs.Definitions.{sum_below}
use Rattle.settings_values.specs.Definitions.{shards}
use Rattle.search_laws.specs.Tables.{owners_of}
use Rattle.place_groups.specs.Definitions.{group_valid, group_moves, Impossible, plan_moves}
use Rattle.place_laws.specs.Definitions.{masks_of}
use Rattle.place_laws.specs.Floor.{group_floor}
use Rattle.place_layout.specs.Post.{Unplaced}
use Rattle.place_rounds.specs.declared.Grouped.{Grouped}
use Rattle.place_rounds.specs.declared.PlacedWithin.{PlacedWithin}
use Rattle.place_rounds.specs.Definitions.{FirstValid, NoneFewer, gap_of, Bettered}
use Rattle.place_rounds.specs.Owners.{owned_masks}
use Rattle.place_rounds.specs.Parts.{RoundsSoFar, GroupRounds}

-- all four subgroups have the placement that n rounds reach, with its moves and its gap; nothing stands from S up
pub record LaidWithin (σ : List ℕ) (held : ℕ) (old : ℕ → ℕ) (n : ℕ) (p : PlacedWithin) : Type 0 where
  pub bettered : Bettered σ held old n (masks_of p.placed.masks)
  pub total : p.placed.total ≡ plan_moves σ old (masks_of p.placed.masks)
  pub gap : p.gap ≡ gap_of σ held old (masks_of p.placed.masks)
  pub rest : (s : ℕ) → shards σ ≤ s → masks_of p.placed.masks s ≡ 0
  pub sized : length p.placed.masks ≡ 16
  pub group : p.placed.group ≡ 0

-- nothing is placed, and there is no gap
pub record NoneWithin (σ : List ℕ) (held : ℕ) (p : PlacedWithin) : Type 0 where
  pub unplaced : Unplaced σ held p.placed
  pub gap : p.gap ≡ 0

-- all four subgroups are placed, or the lowest without a valid placement is named
pub record PlacementWithin (σ : List ℕ) (held : ℕ) (old : ℕ → ℕ) (n : ℕ) (p : PlacedWithin) : Type 0 where
  pub laid : p.placed.found ≡ true → LaidWithin σ held old n p
  pub unplaced : p.placed.found ≡ false → NoneWithin σ held p

-- ---- on the way

-- subgroup g has no valid placement: nothing is placed
abbrev pub nowhere : ℕ → PlacedWithin
nowhere g = record { placed = record { found = false; group = g; masks = replicate 16 0; total = 0 }; gap = 0 }

-- the owners of subgroup g that so many rounds reach from its first valid placement, with the rounds left and the floor
pub record OwnersReached (σ : List ℕ) (held : ℕ) (old : ℕ → ℕ) (g n : ℕ) (owners : List ℕ) (left floor : ℕ) : Type 0 where
  pub start : ℕ → ℕ
  pub first : FirstValid σ held start g
  pub rounds : GroupRounds σ held old g n start left (owned_masks (owners_of owners))
  pub ended : (left ≡ 0) ⊎ NoneFewer σ held old (owned_masks (owners_of owners)) g
  pub valid : group_valid σ held (owned_masks (owners_of owners)) g ≡ true
  pub small : group_moves σ old (owned_masks (owners_of owners)) g ≤ 32
  pub floors : floor ≡ group_floor σ held old g

-- or that there is no valid placement
pub record GroupReached (σ : List ℕ) (held : ℕ) (old : ℕ → ℕ) (g n : ℕ) (r : Grouped) : Type 0 where
  pub reached : r.found ≡ true → OwnersReached σ held old g n r.owners r.left r.floor
  pub none : r.found ≡ false → Impossible σ held g

-- the first k subgroups have what n rounds reach there, with their moves, their floor and the rounds left
pub record ReachedSoFar (σ : List ℕ) (held : ℕ) (old : ℕ → ℕ) (n k : ℕ) (masks : List ℕ) (total floor left : ℕ) : Type 0 where
  pub start : ℕ → ℕ
  pub first : (h : ℕ) → h < k → FirstValid σ held start h
  pub rounds : RoundsSoFar σ held old k n start left (masks_of masks)
  pub ended : (left ≡ 0) ⊎ ((h : ℕ) → h < k → NoneFewer σ held old (masks_of masks) h)
  pub valid : (h : ℕ) → h < k → group_valid σ held (masks_of masks) h ≡ true
  pub counted : total ≡ sum_below k (group_moves σ old (masks_of masks))
  pub floors : floor ≡ sum_below k (group_floor σ held old)
  pub rest : (s : ℕ) → shards σ ≤ s → masks_of masks s ≡ 0
  pub sized : length masks ≡ 16
  pub small : total ≤ 32 * k
  pub low : floor ≤ total

-- ---- with rounds enough

-- owners of subgroup g that 32 rounds or more reach, with at most 32 of them used
abbrev pub OwnersEnded : List ℕ → ℕ → (ℕ → ℕ) → ℕ → List ℕ → ℕ → Type 0
OwnersEnded σ held old g owners floor = (n : ℕ) → 32 ≤ n → (m : ℕ) × (n ≤ m + 32) × OwnersReached σ held old g n owners m floor

-- or that there is no valid placement
pub record GroupEnded (σ : List ℕ) (held : ℕ) (old : ℕ → ℕ) (g : ℕ) (r : Grouped) : Type 0 where
  pub ended : r.found ≡ true → OwnersEnded σ held old g r.owners r.floor
  pub none : r.found ≡ false → Impossible σ held g

-- the first k subgroups have what 128 rounds reach there, and 32 are left for each of the others
abbrev pub EndedSoFar : List ℕ → ℕ → (ℕ → ℕ) → ℕ → List ℕ → ℕ → ℕ → Type 0
EndedSoFar σ held old k masks total floor = (left : ℕ) × (128 ≤ left + 32 * k) × ReachedSoFar σ held old 128 k masks total floor left
