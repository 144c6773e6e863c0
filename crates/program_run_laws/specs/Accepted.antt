-- What settings and reports lead to where each report is accepted beside what is kept and remembered. Soundness is not asked again: every run
-- comes to a sound state.
use Rattle.std.specs.Prelude.{ℕ, Bool, true, ◌&&◌, List, [], ◌∷◌, get_or}
use Rattle.base_ids.specs.Definitions.{accepted}
use Rattle.message_format.specs.Definitions.{contents_of}
use Rattle.report_kept.specs.Definitions.{refusal_beside}
use Rattle.report_desk.specs.Definitions.{desk_with}
use Rattle.state_planner.specs.declared.State.{State}
use Rattle.state_planner.specs.Definitions.{after_report}

-- the state after the reports ws
unfoldable pub state_after : List ℕ → State → List (List ℕ) → State
state_after σ x [] = x
state_after σ x (w ∷ ws) = state_after σ (after_report σ x (contents_of w)) ws

-- the desk after them
unfoldable pub desk_of : List ℕ → List (List ℕ) → List ℕ
desk_of d [] = d
desk_of d (w ∷ ws) = desk_of (desk_with d (get_or w 0 0) w) ws

-- each is accepted beside what is kept and remembered
unfoldable pub all_accepted : List ℕ → State → List (List ℕ) → Bool
all_accepted σ x [] = true
all_accepted σ x (w ∷ ws) =
    accepted (refusal_beside σ x.kept x.termination x.latest w) && all_accepted σ (after_report σ x (contents_of w)) ws
