-- Only the planner reports: to any other role the call answers by lengths and settings alone, and changes no lent byte.
use Rattle.std.specs.Prelude.{ℕ, false, List, ◌≡◌}
use Rattle.base_lent.specs.Definitions.{words_in}
use Rattle.state_planner.specs.Definitions.{desk_ok}
use Rattle.c_state.specs.Definitions.{by_planner, event_refused}
use Rattle.c_state.specs.Barred.{Bars, told_barred, event_barred}
use Rattle.c_events.specs.Definitions.{report_taken, report_answer, report_leaves, report_desk}

module _ (role : ℕ) (settings state desk message : List ℕ) (h : by_planner role ≡ false) where
  pub report_barred : Bars (desk_ok (words_in desk)) settings state (report_answer role settings state desk message) (report_leaves role settings state desk message)
  unfolding report_answer report_leaves
  report_barred = event_barred role settings state desk (report_taken settings state desk message) h

  pub desk_kept : report_desk role settings state desk message ≡ desk
  unfolding report_desk event_refused
  desk_kept = (told_barred (by_planner role) (desk_ok (words_in desk)) settings state _ h 0 _ desk).leaves
