-- An accepted report leads to a sound state. Whatever becomes of the kept view and termination, they are sound, the new report
-- fits them and every report that fitted what was kept before still fits; the desk has the new report in its node's slot.
use Rattle.std.specs.Prelude.{ℕ, List, ◌≡◌, get_or}
use Rattle.base_ids.specs.Definitions.{none}
use Rattle.message_format.specs.Definitions.{contents_of}
use Rattle.state_planner.specs.declared.State.{State}
use Rattle.state_planner.specs.Definitions.{keeping, report_refusal, after_report}
use Rattle.report_desk.specs.Definitions.{desk_with}
use Rattle.state_laws.specs.Noting.{RecallsReports, report_exact}
use Rattle.state_laws.specs.AfterReport.{taken, node_32, words, message_words}

module _ (σ : List ℕ) (x : State) (d w : List ℕ) (h : report_refusal σ x d w ≡ none) where
  -- of each held node the view of its report is remembered, if it was so before
  pub report_recalled : RecallsReports x.held d x.latest
      → RecallsReports (after_report σ x (contents_of w)).held (desk_with d (get_or w 0 0) w) (after_report σ x (contents_of w)).latest
  unfolding after_report keeping contents_of
  report_recalled = report_exact x.held d w x.latest (words σ x d w h) (message_words σ x d w h) (node_32 σ x d w h) (taken σ x d w h).row18-holds
