-- Every run comes to a sound state, so that decide refuses nothing after its last block; and a run is ended only by number 2, by
-- one of 5 to 13 or 18 alone, or by 8, 9, 16 or 17 with a record.
use Rattle.std.specs.Prelude.{ℕ, Bool, true, cond, ◌⊎◌, List, ◌≡◌, get_or}
use Rattle.std.proofs.Common.{ap, ap₂, ◌∙◌}
use Rattle.base_ids.specs.Definitions.{none, accepted}
use Rattle.base_ids.specs.Refusals.{accepted_none, first_none, unless_true}
use Rattle.report_views.specs.declared.Phase.TheVariants.{Gathering}
use Rattle.report_kept.specs.Definitions.{refusal_beside}
use Rattle.report_desk.specs.Definitions.{desk_with}
use Rattle.state_planner.specs.declared.State.{State}
use Rattle.state_planner.specs.declared.Outcome.{Outcome}
use Rattle.message_format.specs.Definitions.{contents_of}
use Rattle.state_planner.specs.Definitions.{keeping, desk_ok, entry_refusal, report_refusal, after_report, reported, desk_after}
use Rattle.report_views.specs.Definitions.{is_gathering}
use Rattle.state_planner.specs.EventLaws.{outcome_accepted}
use Rattle.state_laws.specs.Reached.{Reached, reporting}
use Rattle.state_laws.proofs.Reached.{reached_entry}
use Rattle.program_run.specs.Definitions.{Progress, Started, Underway, Ended, told_reports}
use Rattle.program_run_laws.specs.Numbers.{OfReport}

-- a state of a run: reached by accepted reports, and gathering
pub record Gathers (σ : List ℕ) (x : State) (d : List ℕ) : Type 0 where
  pub reached : Reached σ x d
  pub phase : x.phase ≡ Gathering

-- what a run can come to
unfoldable pub CanReach : Progress → Type 0
CanReach (Started d) = desk_ok d ≡ true
CanReach (Underway σ x d) = Gathers σ x d
CanReach (Ended r d) = (r.code ≡ 2) ⊎ OfReport r

-- while a run gathers, rows 1 to 4 refuse nothing
pub entry_none : (σ : List ℕ) (x : State) (d : List ℕ) → Gathers σ x d → entry_refusal (desk_ok d) σ x d (is_gathering x.phase) ≡ none
entry_none σ x d g =
    reached_entry σ x d g.reached (is_gathering x.phase)
    ∙ unless_true (is_gathering x.phase) 4 none (ap is_gathering g.phase)

pub report_none : (σ : List ℕ) (x : State) (d w : List ℕ) → Gathers σ x d → report_refusal σ x d w ≡ refusal_beside σ x.kept x.termination x.latest w
unfolding report_refusal
report_none σ x d w g = first_none _ _ (entry_none σ x d g)

-- a report that is accepted
pub told_taken : (σ : List ℕ) (x : State) (d w : List ℕ) → accepted (report_refusal σ x d w) ≡ true
    → told_reports σ x d w ≡ Underway σ (after_report σ x (contents_of w)) (desk_with d (get_or w 0 0) w)
unfolding told_reports reported desk_after
told_taken σ x d w e =
    ap (λ (b : Bool). cond b (Underway σ (reported σ x d w).state (desk_after σ x d w)) (Ended (report_refusal σ x d w) d)) e
    ∙ ap₂ (Underway σ) (ap (λ (o : Outcome). o.state) (outcome_accepted (report_refusal σ x d w) x (after_report σ x (contents_of w)) e))
    (ap (λ (b : Bool). cond b (desk_with d (get_or w 0 0) w) d) e)

-- a report
module _ (σ : List ℕ) (x : State) (d w : List ℕ) (g : Gathers σ x d) where
  pub taken_gathers : accepted (report_refusal σ x d w) ≡ true → Gathers σ (after_report σ x (contents_of w)) (desk_with d (get_or w 0 0) w)
  unfolding after_report keeping
  taken_gathers e =
      record { reached = reporting x d w g.reached (accepted_none (report_refusal σ x d w) e); phase = g.phase }
