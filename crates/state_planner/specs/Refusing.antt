-- Rows 1 and 2 of every event.
use Rattle.std.specs.Prelude.{ℕ, List}
use Rattle.base_ids.specs.declared.Refusal.{Refusal}
use Rattle.base_ids.specs.Definitions.{none, unless}
use Rattle.settings_values.specs.Definitions.{settings_ok}
use Rattle.state_planner.specs.Definitions.{desk_ok}

-- rows 1 and 2 alone: the desk's length and the settings
unfoldable pub call_refusal : List ℕ → List ℕ → Refusal
call_refusal σ d = unless (desk_ok d) 1 (unless (settings_ok σ) 2 none)
