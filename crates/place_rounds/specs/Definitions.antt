-- A plan now, a better one later: from the settings σ, the mask of held nodes and the members that each shard had in the kept view (old).
use Rattle.std.specs.Prelude.{ℕ, suc, ◌-◌, ◌≤◌, ◌<◌, true, false, List, ◌≡◌}
use Rattle.base_sum_laws.specs.Definitions.{sum_below}
use Rattle.settings_values.specs.Definitions.{shards}
use Rattle.place_groups.specs.Definitions.{group_valid, group_moves, of_group, NotLater, plan_moves}
use Rattle.place_laws.specs.Definitions.{lacking}

-- the valid placement of subgroup g that comes first, whatever its moves
pub record FirstValid (σ : List ℕ) (held : ℕ) (masks : ℕ → ℕ) (g : ℕ) : Type 0 where
  pub valid : group_valid σ held masks g ≡ true
  pub first : (other : ℕ → ℕ) → group_valid σ held other g ≡ true → NotLater (of_group σ g) masks other

-- b is the first of the valid placements of subgroup g that have fewer moves than a
pub record FirstFewer (σ : List ℕ) (held : ℕ) (old a b : ℕ → ℕ) (g : ℕ) : Type 0 where
  pub valid : group_valid σ held b g ≡ true
  pub fewer : group_moves σ old b g < group_moves σ old a g
  pub first : (other : ℕ → ℕ) → group_valid σ held other g ≡ true → group_moves σ old other g < group_moves σ old a g → NotLater (of_group σ g) b other

-- no valid placement of subgroup g has fewer moves than a
pub record NoneFewer (σ : List ℕ) (held : ℕ) (old a : ℕ → ℕ) (g : ℕ) : Type 0 where
  pub none : (other : ℕ → ℕ) → group_valid σ held other g ≡ true → group_moves σ old a g ≤ group_moves σ old other g

-- one round: in the lowest subgroup that has a valid placement of fewer moves, the first such; all other shards keep their nodes
pub record Round (σ : List ℕ) (held : ℕ) (old a b : ℕ → ℕ) : Type 0 where
  pub at : ℕ
  pub below : at < 4
  pub better : FirstFewer σ held old a b at
  pub lower : (h : ℕ) → h < at → NoneFewer σ held old a h
  pub else : (s : ℕ) → s < shards σ → of_group σ at s ≡ false → b s ≡ a s

-- the same nodes for every shard
abbrev pub SamePlan : List ℕ → (ℕ → ℕ) → (ℕ → ℕ) → Type 0
SamePlan σ a b = (s : ℕ) → s < shards σ → a s ≡ b s

-- n rounds, and fewer only where no subgroup has a valid placement of fewer moves
pub data Rounds (σ : List ℕ) (held : ℕ) (old : ℕ → ℕ) : ℕ → (ℕ → ℕ) → (ℕ → ℕ) → Type 0 where
  over : {a c : ℕ → ℕ} → SamePlan σ a c → Rounds σ held old 0 a c
  done : {n : ℕ} {a c : ℕ → ℕ} → ((g : ℕ) → g < 4 → NoneFewer σ held old a g) → SamePlan σ a c → Rounds σ held old n a c
  more : {n : ℕ} {a b c : ℕ → ℕ} → Round σ held old a b → Rounds σ held old n b c → Rounds σ held old (suc n) a c

-- how many moves every valid placement has at least: over the shards, the need less the lesser of the need and the sets of its held old members
unfoldable pub plan_floor : List ℕ → ℕ → (ℕ → ℕ) → ℕ
plan_floor σ held old = sum_below (shards σ) (lacking σ held old)

-- the gap
unfoldable pub gap_of : List ℕ → ℕ → (ℕ → ℕ) → (ℕ → ℕ) → ℕ
gap_of σ held old masks = plan_moves σ old masks - plan_floor σ held old

-- what is reached with n rounds
pub record Bettered (σ : List ℕ) (held : ℕ) (old : ℕ → ℕ) (n : ℕ) (masks : ℕ → ℕ) : Type 0 where
  pub start : ℕ → ℕ
  pub first : (g : ℕ) → g < 4 → FirstValid σ held start g
  pub rounds : Rounds σ held old n start masks
