-- Rows 1, 2 and 15 of the page call.
use Rattle.std.specs.Prelude.{ℕ, List}
use Rattle.base_ids.specs.declared.Refusal.{Refusal}
use Rattle.base_ids.specs.Definitions.{none, unless}
use Rattle.base_roles.specs.declared.Role.{Role}
use Rattle.base_roles.specs.Definitions.{may_read}
use Rattle.settings_values.specs.Definitions.{settings_ok}
use Rattle.state_planner.specs.Definitions.{desk_ok}

-- of these 1, 2 and 15 alone
unfoldable pub asked_refusal : List ℕ → List ℕ → Role → ℕ → Refusal
asked_refusal σ d role g = unless (desk_ok d) 1 (unless (settings_ok σ) 2 (unless (may_read role g) 15 none))
