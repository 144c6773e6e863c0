-- Caps change no wait and no total: with every cap at its shard's need a valid placement of a subgroup exists just where one exists with
-- the caps as they are, and the least moves are as many.
use Rattle.std.specs.Prelude.{List, ℕ, ◌+◌, ◌%◌, length}
use Rattle.std.proofs.Math.Bool.{cond}
use Rattle.std.proofs.Math.Dec.{eqb, ltb}
use Rattle.std.proofs.Math.ListN.{get_or}
use Rattle.base_laws.specs.Definitions.{tabulate}
use Rattle.base_sum_laws.specs.Definitions.{mask_below}
use Rattle.settings_values.specs.Definitions.{nodes}
use Rattle.search_laws.specs.Lesser.{kept_only}
use Rattle.place_laws.specs.Owners.{owner}
use Rattle.place_laws.specs.Tables.{group_case}

-- a word with every shard's cap at its need: the shards' words below 65536
unfoldable pub uncapped_word : List ℕ → ℕ → ℕ
uncapped_word σ k = cond (ltb k (4 + nodes σ)) (get_or σ k 0) (get_or σ k 0 % 65536)

-- the settings of these words
unfoldable pub uncapped : List ℕ → List ℕ
uncapped σ = tabulate (length σ) (uncapped_word σ)

-- a valid placement of subgroup g with every cap at its need, from any valid one: of each shard's nodes the lowest of each of the first sets
-- that it needs
unfoldable pub narrower : List ℕ → ℕ → (ℕ → ℕ) → ℕ → (ℕ → ℕ) → ℕ → ℕ
narrower σ held old g masks s = mask_below 32 (λ n. eqb (kept_only (group_case σ held old g) (owner σ g masks) n) s)
