-- What contracts cite, each definition after those that it builds on. Laws stand in the files beside this one.
use Rattle.std.specs.Prelude.{ℕ, ◌<◌, ◌≤◌, ◌^◌, true, List, ◌⊎◌, ◌≡◌, length, get_or}
use Rattle.settings_values.specs.Definitions.{nodes}
use Rattle.place_groups.specs.Definitions.{group_valid, LowestUnplaced}
use Rattle.report_views.specs.Definitions.{quorum_of, number_of}
use Rattle.report_views.specs.declared.Layout.{Layout}
use Rattle.report_views.specs.declared.Termination.{Termination}
use Rattle.report_views.specs.declared.Reason.{Reason}
use Rattle.report_views.specs.declared.Quorum.{Quorum}
use Rattle.report_views.specs.declared.Quorum.TheVariants.{Met, Short}

-- ---- The number that decide would give for a set of held nodes: 0 for a plan, else the wait's. q: what waits 1 to 4 say of these nodes.

-- every subgroup has a valid placement of held nodes
abbrev pub Placeable : List ℕ → ℕ → Type 0
Placeable σ held = (g : ℕ) → g < 4 → (P : ℕ → ℕ) × (group_valid σ held P g ≡ true)

-- no wait applies: no quorum condition fails, and every subgroup has a valid placement
pub record Allowed (σ : List ℕ) (held : ℕ) (q : Quorum) : Type 0 where
  pub quorum : q ≡ Met
  pub placements : Placeable σ held

-- a restart exists with these nodes held
abbrev pub Restartable : List ℕ → Layout → Termination → ℕ → List ℕ → Type 0
Restartable σ v t held d = Allowed σ held (quorum_of σ v t held d)

-- 0 where every subgroup can be placed, or 5 beside the lowest that cannot
abbrev pub PlacementNumber : List ℕ → ℕ → ℕ → Type 0
PlacementNumber σ held k = ((k ≡ 0) × Placeable σ held) ⊎ ((k ≡ 5) × ((g : ℕ) × LowestUnplaced σ held g))

-- the number: of the first quorum condition that fails, and where none does by the placement
pub record Numbered (σ : List ℕ) (held : ℕ) (q : Quorum) (k : ℕ) : Type 0 where
  pub waits : (reason : Reason) → q ≡ Short reason → k ≡ number_of reason
  pub met : q ≡ Met → PlacementNumber σ held k

-- ---- The row of every mask of held nodes. q: what waits 1 to 4 say of each mask.

-- 1,024 rows: the number of each mask of the settings' nodes, and zeros after them
pub record Rows (σ : List ℕ) (q : ℕ → Quorum) (l : List ℕ) : Type 0 where
  pub size : length l ≡ 1024
  pub each : (h : ℕ) → h < 2 ^ nodes σ → Numbered σ h (q h) (get_or l h 0)
  pub rest : (h : ℕ) → 2 ^ nodes σ ≤ h → get_or l h 0 ≡ 0
