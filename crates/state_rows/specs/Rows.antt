-- Rows 3 and 4 together.
use Rattle.std.specs.Prelude.{Bool}
use Rattle.base_ids.specs.declared.Refusal.{Refusal}
use Rattle.base_ids.specs.Definitions.{none, unless}

-- rows 3 and 4: what follows where lengths and settings are right
abbrev pub sound_rows : Bool → Bool → Refusal
sound_rows sound inPhase = unless sound 3 (unless inPhase 4 none)
