-- What contracts cite, each definition after those that it builds on. Laws stand in the files beside this one.
use Rattle.std.specs.Prelude.{ℕ, ◌≤◌, ◌<◌, Bool, true, cond, not, ◌&&◌, ◌||◌, List, ◌≡◌, eqb, leb, ltb, ◌⊎◌}
use Rattle.std.specs.Int.Bits.{bit_and}
use Rattle.base_laws.specs.Definitions.{all_below, any_below, count_below, has, count, subset, minus}
use Rattle.base_sum_laws.specs.Definitions.{sum_below, list_from, list_before}
use Rattle.settings_values.specs.Definitions.{nodes, shards, set_of, subgroup, need, cap}
use Rattle.message_format.specs.Definitions.{shard_apart}

-- ---- Placements of a subgroup g: a mask of nodes for each shard, from the settings σ, the mask of held nodes and the members
-- that each shard had in the kept view (old).

-- some node of the mask is of failure set f
unfoldable pub meets_set : List ℕ → ℕ → ℕ → Bool
meets_set σ mask f = any_below (nodes σ) (λ n. has mask n && eqb (set_of σ n) f)

-- how many failure sets the nodes of the mask are of
unfoldable pub sets_in : List ℕ → ℕ → ℕ
sets_in σ mask = count_below 16 (meets_set σ mask)

-- shard s gets held nodes, at most its cap, from at least as many failure sets as it needs
unfoldable pub shard_valid : List ℕ → ℕ → (ℕ → ℕ) → ℕ → Bool
shard_valid σ held masks s =
    subset (masks s) held && leb (count (masks s)) (cap σ s) && leb (need σ s) (sets_in σ (masks s))

-- shard s is of another subgroup, or is valid and shares no node with a lower shard of its subgroup
unfoldable pub group_valid_at : List ℕ → ℕ → (ℕ → ℕ) → ℕ → ℕ → Bool
group_valid_at σ held masks g s =
    not (eqb (subgroup σ s) g) || shard_valid σ held masks s && all_below s (shard_apart σ masks s)

-- a valid placement of subgroup g
unfoldable pub group_valid : List ℕ → ℕ → (ℕ → ℕ) → ℕ → Bool
group_valid σ held masks g = all_below (shards σ) (group_valid_at σ held masks g)

-- the nodes placed in shard s that were no members of it, if s is of subgroup g
unfoldable pub group_moves_at : List ℕ → (ℕ → ℕ) → (ℕ → ℕ) → ℕ → ℕ → ℕ
group_moves_at σ old masks g s = cond (eqb (subgroup σ s) g) (count (minus (masks s) (old s))) 0

-- the moves of a placement of subgroup g, counted by node
unfoldable pub group_moves : List ℕ → (ℕ → ℕ) → (ℕ → ℕ) → ℕ → ℕ
group_moves σ old masks g = sum_below (shards σ) (group_moves_at σ old masks g)

-- the nodes placed in shard s that were members of it, if s is of subgroup g
unfoldable pub group_stays_at : List ℕ → (ℕ → ℕ) → (ℕ → ℕ) → ℕ → ℕ → ℕ
group_stays_at σ old masks g s = cond (eqb (subgroup σ s) g) (count (bit_and (masks s) (old s))) 0

-- the stays of a placement of subgroup g, counted by node
unfoldable pub group_stays : List ℕ → (ℕ → ℕ) → (ℕ → ℕ) → ℕ → ℕ
group_stays σ old masks g = sum_below (shards σ) (group_stays_at σ old masks g)

-- no valid placement of subgroup g exists
pub record Impossible (σ : List ℕ) (held g : ℕ) : Type 0 where
  pub none : (masks : ℕ → ℕ) → group_valid σ held masks g ≡ true → ⊥

-- g is the lowest subgroup without a valid placement
pub record LowestUnplaced (σ : List ℕ) (held g : ℕ) : Type 0 where
  pub below : g < 4
  pub none : Impossible σ held g
  pub lower : (h : ℕ) → h < g → (masks : ℕ → ℕ) × (group_valid σ held masks h ≡ true)

-- a valid placement of subgroup g, and none has fewer moves
pub record LeastMoves (σ : List ℕ) (held : ℕ) (old masks : ℕ → ℕ) (g : ℕ) : Type 0 where
  pub valid : group_valid σ held masks g ≡ true
  pub least : (other : ℕ → ℕ) → group_valid σ held other g ≡ true → group_moves σ old masks g ≤ group_moves σ old other g

-- ---- The choice among placements of least moves: those in which the most nodes stay, and of those the first, shards ascending, each
-- shard's nodes listed ascending, where at the first shard that differs the smaller list in dictionary order wins. The same choice
-- serves a subgroup and the plan as a whole.

-- s is a shard, of subgroup g
unfoldable pub of_group : List ℕ → ℕ → ℕ → Bool
of_group σ g s = ltb s (shards σ) && eqb (subgroup σ s) g

-- the nodes of a mask, ascending
unfoldable pub nodes_in : ℕ → List ℕ
nodes_in mask = list_from 0 32 (has mask)

-- a and b give each shard that `of` picks the same nodes
pub record SameNodes (of : ℕ → Bool) (a b : ℕ → ℕ) : Type 0 where
  pub alike : (s : ℕ) → of s ≡ true → nodes_in (a s) ≡ nodes_in (b s)

-- at the first of these shards that differs, a's list of nodes is the smaller
pub record Sooner (of : ℕ → Bool) (a b : ℕ → ℕ) : Type 0 where
  pub shard : ℕ
  pub picked : of shard ≡ true
  pub alike : (s : ℕ) → s < shard → of s ≡ true → nodes_in (a s) ≡ nodes_in (b s)
  pub smaller : list_before (nodes_in (a shard)) (nodes_in (b shard)) ≡ true

-- b does not come before a
abbrev pub NotLater : (ℕ → Bool) → (ℕ → ℕ) → (ℕ → ℕ) → Type 0
NotLater of a b = SameNodes of a b ⊎ Sooner of a b

-- the placement of subgroup g: of least moves, of those with the most stays, and of those the first
pub record Chosen (σ : List ℕ) (held : ℕ) (old masks : ℕ → ℕ) (g : ℕ) : Type 0 where
  pub least : LeastMoves σ held old masks g
  pub most : (other : ℕ → ℕ) → LeastMoves σ held old other g → group_stays σ old other g ≤ group_stays σ old masks g
  pub first : (other : ℕ → ℕ) → LeastMoves σ held old other g → group_stays σ old other g ≡ group_stays σ old masks g
      → NotLater (of_group σ g) masks other

-- the moves of all four subgroups
abbrev pub plan_moves : List ℕ → (ℕ → ℕ) → (ℕ → ℕ) → ℕ
plan_moves σ old masks = sum_below 4 (group_moves σ old masks)

-- valid in every subgroup
abbrev pub AllValid : List ℕ → ℕ → (ℕ → ℕ) → Type 0
AllValid σ held masks = (g : ℕ) → g < 4 → group_valid σ held masks g ≡ true
