-- Only the planner asks these calls: to any other role they answer by lengths and settings alone, and change no lent byte.
use Rattle.std.specs.Prelude.{ℕ, false, List, ◌≡◌}
use Rattle.std.proofs.Math.Path.{ap}
use Rattle.base_lent.specs.Definitions.{words_in, answer_word, bytes_left}
use Rattle.base_ids.specs.declared.Refusal.{Refusal}
use Rattle.base_ids.specs.Definitions.{unless}
use Rattle.state_planner.specs.Definitions.{desk_ok, check_refusal}
use Rattle.c_state.specs.Definitions.{by_planner, state_lent}
use Rattle.c_state.specs.Barred.{barred, Bars, called_barred, event_barred}
use Rattle.c_events.specs.declared.Event.{Event}
use Rattle.c_events.specs.Definitions.{fresh_refused, fresh_answer, fresh_leaves, check_state_answer, taken, take_answer, take_leaves}

module _ (role : ℕ) (h : by_planner role ≡ false) where
  pub fresh_bars : (state : List ℕ) → (fresh_answer role state ≡ 15) × (fresh_leaves role state ≡ state)
  unfolding fresh_answer fresh_leaves fresh_refused answer_word bytes_left unless
  fresh_bars state = (rw h, rw h)

  module _ (settings state desk : List ℕ) where
    pub check_barred : check_state_answer role settings state desk ≡ (barred (desk_ok (words_in desk)) settings).code
    unfolding check_state_answer
    check_barred =
        ap (λ (r : Refusal). r.code)
        (called_barred (by_planner role) (desk_ok (words_in desk)) settings state (check_refusal (words_in settings) (state_lent state) (words_in desk)) h)

    pub take_barred : (event : Event) (node : ℕ)
        → Bars (desk_ok (words_in desk)) settings state (take_answer role event settings state desk node) (take_leaves role event settings state desk node)
    unfolding take_answer take_leaves
    take_barred event node = event_barred role settings state desk (taken event settings state desk node) h
