-- The placement sheet: for each shard and failure set what a node of that set costs the shard at least. From the settings σ, the
-- mask of held nodes and the members that each shard had in the kept view (old).
use Rattle.std.specs.Prelude.{ℕ, cond, ◌&&◌, List, ltb}
use Rattle.std.specs.Int.Bits.{bit_and}
use Rattle.base_laws.specs.Definitions.{tabulate}
use Rattle.settings_values.specs.Definitions.{sets, shards}
use Rattle.place_groups.specs.Definitions.{meets_set}

-- 0 if a held old member of shard s is in set f, 1 if only other held nodes are, 2 if none, and 2 from S or F up
unfoldable pub sheet_at : List ℕ → ℕ → (ℕ → ℕ) → ℕ → ℕ → ℕ
sheet_at σ held old s f =
    cond (ltb s (shards σ) && ltb f (sets σ)) (cond (meets_set σ (bit_and held (old s)) f) 0 (cond (meets_set σ held f) 1 2)) 2

-- the sheet, a row for each shard
unfoldable pub sheet_of : List ℕ → ℕ → (ℕ → ℕ) → List (List ℕ)
sheet_of σ held old = tabulate 16 (λ s. tabulate 16 (sheet_at σ held old s))
