-- The masks of one subgroup, made from its owners, beside those of the others.
use Rattle.std.specs.Prelude.{◌≡◌, cond, List, ℕ, length, get_or}
use Rattle.std.proofs.Math.Dec.{eqb}
use Rattle.base_laws.specs.Definitions.{tabulate}
use Rattle.base_laws.specs.Tables.{length_tabulate}
use Rattle.base_sum_laws.specs.Definitions.{mask_below}
use Rattle.search_laws.specs.Tables.{owners_of}
use Rattle.place_groups.specs.Definitions.{of_group}

-- the nodes that shard s owns
unfoldable pub owned_by : List ℕ → ℕ → ℕ
owned_by o s = mask_below 32 (λ n. eqb (owners_of o n) s)

-- the mask of shard s: the nodes that it owns if it is of subgroup g, else as it was
unfoldable pub mask_with : List ℕ → ℕ → List ℕ → ℕ → ℕ → ℕ
mask_with σ g o was s = cond (of_group σ g s) (owned_by o s) was

-- the masks, with those of subgroup g from its owners
unfoldable pub masks_with : List ℕ → ℕ → List ℕ → List ℕ → List ℕ
masks_with σ g o masks = tabulate 16 (λ s. mask_with σ g o (get_or masks s 0) s)

module _ (σ : List ℕ) (g : ℕ) (o masks : List ℕ) where
  pub with-length : length (masks_with σ g o masks) ≡ 16
  unfolding masks_with
  with-length = length_tabulate 16 (λ s. mask_with σ g o (get_or masks s 0) s)
