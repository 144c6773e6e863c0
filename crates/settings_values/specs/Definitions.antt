-- The settings' words: N nodes, F failure sets, the least group size, S shards; then each node's failure set; then for each
-- shard cap × 65536 + subgroup × 256 + m, where m is from how many different failure sets the shard needs members and cap how many
-- members it may have; a cap of 0 stands for m.
use Rattle.std.specs.Prelude.{ℕ, ◌+◌, ◌/◌, ◌%◌, ◌<◌, ◌≤◌, Bool, cond, ◌&&◌, List, ◌≡◌, eqb, leb, ltb, length, get_or}
use Rattle.base_laws.specs.Definitions.{all_below}

abbrev pub nodes : List ℕ → ℕ
nodes σ = get_or σ 0 0

-- the number of failure sets
abbrev pub sets : List ℕ → ℕ
sets σ = get_or σ 1 0

-- the least group size
abbrev pub least : List ℕ → ℕ
least σ = get_or σ 2 0

abbrev pub shards : List ℕ → ℕ
shards σ = get_or σ 3 0

-- the failure set of node n
abbrev pub set_of : List ℕ → ℕ → ℕ
set_of σ n = get_or σ (4 + n) 0

-- the word of shard s
abbrev pub shard_word : List ℕ → ℕ → ℕ
shard_word σ s = get_or σ (4 + nodes σ + s) 0

abbrev pub subgroup : List ℕ → ℕ → ℕ
subgroup σ s = shard_word σ s / 256 % 256

-- from how many different failure sets shard s needs members
abbrev pub need : List ℕ → ℕ → ℕ
need σ s = shard_word σ s % 256

-- how many members shard s may have
unfoldable pub cap : List ℕ → ℕ → ℕ
cap σ s = cond (eqb (shard_word σ s / 65536) 0) (need σ s) (shard_word σ s / 65536)

-- low ≤ x ≤ high
abbrev pub from_to : ℕ → ℕ → ℕ → Bool
from_to low high x = leb low x && leb x high

-- the first four words are in their ranges
abbrev pub ranges_ok : List ℕ → Bool
ranges_ok σ =
    from_to 1 32 (nodes σ) && from_to 1 16 (sets σ) && from_to 1 (nodes σ) (least σ) && from_to 1 16 (shards σ)

-- nothing is missing or follows
unfoldable pub sizes_ok : List ℕ → Bool
sizes_ok σ = leb 4 (length σ) && ranges_ok σ && eqb (length σ) (4 + nodes σ + shards σ)

-- each node's failure set is one of them
unfoldable pub nodes_ok : List ℕ → Bool
nodes_ok σ = all_below (nodes σ) (λ n. ltb (set_of σ n) (sets σ))

-- subgroup 0 to 3, a need from 1 to F, and a cap from the need to 16
unfoldable pub shard_ok : List ℕ → ℕ → Bool
shard_ok σ s = leb (subgroup σ s) 3 && from_to 1 (sets σ) (need σ s) && from_to (need σ s) 16 (cap σ s)

unfoldable pub shards_ok : List ℕ → Bool
shards_ok σ = all_below (shards σ) (shard_ok σ)

-- row 2 of document 01's table
unfoldable pub settings_ok : List ℕ → Bool
settings_ok σ = sizes_ok σ && nodes_ok σ && shards_ok σ

-- what right sizes give
pub record Sizes (σ : List ℕ) : Type 0 where
  pub nodes_from : 1 ≤ nodes σ
  pub nodes_to : nodes σ ≤ 32
  pub sets_from : 1 ≤ sets σ
  pub sets_to : sets σ ≤ 16
  pub least_from : 1 ≤ least σ
  pub least_to : least σ ≤ nodes σ
  pub shards_from : 1 ≤ shards σ
  pub shards_to : shards σ ≤ 16
  pub words : length σ ≡ 4 + nodes σ + shards σ

-- what right settings give
pub record Settings (σ : List ℕ) : Type 0 where
  pub sizes : Sizes σ
  pub set_below : (n : ℕ) → n < nodes σ → set_of σ n < sets σ
  pub subgroup_to : (s : ℕ) → s < shards σ → subgroup σ s ≤ 3
  pub need_from : (s : ℕ) → s < shards σ → 1 ≤ need σ s
  pub need_to : (s : ℕ) → s < shards σ → need σ s ≤ sets σ
  pub cap_from : (s : ℕ) → s < shards σ → need σ s ≤ cap σ s
  pub cap_to : (s : ℕ) → s < shards σ → cap σ s ≤ 16
