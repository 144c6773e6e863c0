-- The placement of one subgroup alone, from the settings σ, the mask of held nodes and the members that each shard had in the kept view
-- (old).
use Rattle.std.specs.Prelude.{◌≡◌, true, false, List, ℕ, length, replicate}
use Rattle.place_groups.specs.Definitions.{group_moves, Impossible, of_group, Chosen}
use Rattle.place_laws.specs.Definitions.{masks_of}
use Rattle.place_layout.specs.declared.Offer.{Offer}

-- subgroup g alone has its chosen placement, with its moves, or none exists; nothing stands at other shards
pub record PlacedAlone (σ : List ℕ) (held : ℕ) (old : ℕ → ℕ) (g : ℕ) (p : Offer) : Type 0 where
  pub chosen : p.found ≡ true → Chosen σ held old (masks_of p.masks) g
  pub counted : p.found ≡ true → p.moves ≡ group_moves σ old (masks_of p.masks) g
  pub others : (s : ℕ) → of_group σ g s ≡ false → masks_of p.masks s ≡ 0
  pub sized : length p.masks ≡ 16
  pub none : p.found ≡ false → Impossible σ held g
  pub blank : p.found ≡ false → p.masks ≡ replicate 16 0
  pub still : p.found ≡ false → p.moves ≡ 0
