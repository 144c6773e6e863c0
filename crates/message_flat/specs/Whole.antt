-- There and back, in terms of what the two ways take and write.
use Rattle.std.specs.Prelude.{ℕ, List, ◌≡◌, length}
use Rattle.base_ids.specs.Definitions.{none}
use Rattle.message_format.specs.declared.Form.TheVariants.{Report}
use Rattle.message_format.specs.Definitions.{contents_of, read_refusal}
use Rattle.message_flat.specs.Definitions.{flat_length}
use Rattle.message_flat.specs.Flat.{flat_of}

-- what the two turns promise of a message w made of an accepted flat report f
pub record ComesBack (σ f w : List ℕ) : Type 0 where
  pub taken : read_refusal Report σ w ≡ none
  pub long : flat_length σ (contents_of w) ≡ length f
  pub same : flat_of σ w ≡ f
