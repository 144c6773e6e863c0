-- The refusals of both ways in the order in which the code finds them, and the flat report of a message.
use Rattle.std.specs.Prelude.{ℕ, List, eqb, length, take}
use Rattle.base_ids.specs.declared.Refusal.{Refusal}
use Rattle.base_ids.specs.Definitions.{unless, first_of}
use Rattle.settings_values.specs.Definitions.{settings_ok}
use Rattle.message_format.specs.declared.Form.TheVariants.{Report}
use Rattle.message_format.specs.Definitions.{contents_of, read_refusal, contents_refusal}
use Rattle.message_flat.specs.Definitions.{flat_contents, flat_refusal, flat_length, flat_words}

-- the refusal of a flat report that is turned into ours: rows 1, 2, 19, 20, 21 and those of the contents
unfoldable pub from_flat_refusal : List ℕ → List ℕ → List ℕ → Refusal
from_flat_refusal σ f buffer =
    unless (eqb (length buffer) 512) 1
    (unless (settings_ok σ) 2 (first_of (flat_refusal f) (contents_refusal Report σ (flat_contents f))))

-- ---- back

-- the flat report of our message: its words without the zeros after them
abbrev pub flat_of : List ℕ → List ℕ → List ℕ
flat_of σ w = take (flat_length σ (contents_of w)) (flat_words σ (contents_of w))

-- the refusal of our report that is turned into a flat one: rows 1, 2 and 5 to 11
unfoldable pub to_flat_refusal : List ℕ → List ℕ → List ℕ → Refusal
to_flat_refusal σ w buffer = unless (eqb (length buffer) 512) 1 (read_refusal Report σ w)
