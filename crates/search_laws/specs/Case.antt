-- One subgroup's case by functions: 32 nodes, 16 shards, 16 failure sets. A placement gives each node its owner:
-- below 16 the shard, anything else means that the node is placed nowhere. So no node is in two shards.
use Rattle.std.specs.Prelude.{Bool, cond, ◌&&◌, ℕ, ◌≤◌, ◌<◌, eqb, ltb}
use Rattle.base_laws.specs.Definitions.{count_below, any_below}
use Rattle.base_sum_laws.specs.Definitions.{sum_below}

pub record Case : Type 0 where
  -- a node's failure set
  pub set_of : ℕ → ℕ
  -- of how many different sets a shard needs nodes
  pub need : ℕ → ℕ
  -- how many nodes a shard may have
  pub cap : ℕ → ℕ
  -- of a shard and a node: what it costs to place the node there; from 255 up it is not allowed
  pub cost : ℕ → ℕ → ℕ
  -- what a node costs that is placed nowhere
  pub idle : ℕ

-- node n is placed
abbrev pub has_owner : (ℕ → ℕ) → ℕ → Bool
has_owner z n = ltb (z n) 16

-- how many nodes shard i has
abbrev pub size : (ℕ → ℕ) → ℕ → ℕ
size z i = count_below 32 (λ n. eqb (z n) i)

-- shard i has a node of set f
unfoldable pub meets : Case → (ℕ → ℕ) → ℕ → ℕ → Bool
meets K z i f = any_below 32 (λ n. eqb (z n) i && eqb (K.set_of n) f)

-- of how many different sets shard i has nodes
unfoldable pub spread : Case → (ℕ → ℕ) → ℕ → ℕ
spread K z i = count_below 16 (meets K z i)

-- each placed node is allowed, and each shard has at most its cap of nodes, of at least its need of failure sets
pub record Valid (K : Case) (z : ℕ → ℕ) : Type 0 where
  pub allowed : (n : ℕ) → n < 32 → z n < 16 → K.cost (z n) n < 255
  pub most : (i : ℕ) → i < 16 → size z i ≤ K.cap i
  pub sets : (i : ℕ) → i < 16 → K.need i ≤ spread K z i

-- by a table of prices, what the placed nodes cost: the moves, where a price is 1 for a move and 0 for a stay
unfoldable pub moves : (ℕ → ℕ → ℕ) → (ℕ → ℕ) → ℕ
moves price z = sum_below 32 (λ n. cond (has_owner z n) (price (z n) n) 0)

-- what a placement costs, counted by node
unfoldable pub weight : Case → (ℕ → ℕ) → ℕ
weight K z = sum_below 32 (λ n. cond (has_owner z n) (K.cost (z n) n) K.idle)

-- valid, of a weight of at most k
pub record WeighsWithin (K : Case) (k : ℕ) (z : ℕ → ℕ) : Type 0 where
  pub valid : Valid K z
  pub cheap : weight K z ≤ k

-- valid, and no valid placement weighs less
pub record LeastWeight (K : Case) (z : ℕ → ℕ) : Type 0 where
  pub valid : Valid K z
  pub least : (y : ℕ → ℕ) → Valid K y → weight K z ≤ weight K y
