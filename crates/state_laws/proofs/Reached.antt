-- The states and desks that accepted events lead to from the fresh state. Each is sound, so rows 1 to 3 refuse no event of a run
-- that goes by what the planner hands back. (An order changes neither state nor desk.)
use Rattle.std.specs.Prelude.{ℕ, Bool, true, List, ◌≡◌}
use Rattle.std.proofs.Math.Logic.{⊎_elim}
use Rattle.std.proofs.Math.Path.{subst⁻¹}
use Rattle.std.proofs.Common.{◌∙◌}
use Rattle.base_laws.specs.Bools.{clash}
use Rattle.base_laws.specs.Masks.{has_zero}
use Rattle.settings_values.specs.Definitions.{settings_ok}
use Rattle.base_ids.specs.Definitions.{none, unless}
use Rattle.base_ids.specs.Refusals.{unless_true}
use Rattle.state_planner.specs.declared.State.{State}
use Rattle.state_planner.specs.Definitions.{sound, fresh, marked, planned, desk_ok, entry_refusal, after_fetched, after_prepared}
use Rattle.state_laws.specs.Fresh.{fresh_sound}
use Rattle.state_laws.specs.Noting.{RecallsReports}
use Rattle.state_laws.specs.AfterReport.{report_sound}
use Rattle.state_laws.proofs.AfterReport.{report_recalled}
use Rattle.state_laws.specs.AfterDrop.{drop_exact}
use Rattle.state_laws.proofs.AfterDrop.{drop_sound}
use Rattle.state_laws.specs.AfterMarks.{fetched_sound, prepared_sound}
use Rattle.state_laws.specs.AfterDecide.{SoundPlanned, decided_state, decide_sound, within_state, within_sound}
use Rattle.state_laws.specs.Reached.{Reached, deciding, dropping, fetching, improving, preparing, reporting, starting, reached_settings, reached_desk}

module _ (σ : List ℕ) where
  pub reached_sound : {x : State} {d : List ℕ} → Reached σ x d → sound σ x d ≡ true
  reached_sound (starting d s l) = fresh_sound σ d
  reached_sound (reporting x d w r h) = report_sound σ x d w h
  reached_sound (dropping x d n r h) = drop_sound σ x d n h
  reached_sound (deciding x d a r h w) = decide_sound σ x d a h w
  reached_sound (improving x d n a r h w) = within_sound σ x d n a h w
  reached_sound (fetching x d n r h) = fetched_sound σ x d n h
  reached_sound (preparing x d n r h) = prepared_sound σ x d n h

  -- a decision leaves held nodes and what is remembered
  recalls_on : (x y : State) (d : List ℕ) → SoundPlanned σ x d y → RecallsReports x.held d x.latest → RecallsReports y.held d y.latest
  unfolding planned
  recalls_on x y d k r =
      ⊎_elim (λ e. subst⁻¹ (λ (z : State). RecallsReports z.held d z.latest) e r)
      (λ b. subst⁻¹ (λ (z : State). RecallsReports z.held d z.latest) b.1 r) k

  -- of each held node the view of its report is remembered
  pub reached_recalls : {x : State} {d : List ℕ} → Reached σ x d → RecallsReports x.held d x.latest
  unfolding fresh planned after_fetched after_prepared marked
  reached_recalls (starting d s l) = λ n k h. clash h (has_zero n)
  reached_recalls (reporting x d w r h) = report_recalled σ x d w h (reached_recalls r)
  reached_recalls (dropping x d n r h) = drop_exact x.phase x d n (reached_recalls r)
  reached_recalls (deciding x d a r h w) = recalls_on x a.state d (decided_state σ x d a h w) (reached_recalls r)
  reached_recalls (improving x d n a r h w) = recalls_on x a.state d (within_state σ x d n a h w) (reached_recalls r)
  reached_recalls (fetching x d n r h) = reached_recalls r
  reached_recalls (preparing x d n r h) = reached_recalls r

  -- of rows 1 to 4 only the last can refuse
  pub reached_entry : (x : State) (d : List ℕ) → Reached σ x d → (inPhase : Bool) → entry_refusal (desk_ok d) σ x d inPhase ≡ unless inPhase 4 none
  unfolding entry_refusal
  reached_entry x d r inPhase =
      unless_true (desk_ok d) 1 _ ((reached_desk σ) r)
      ∙ unless_true (settings_ok σ) 2 _ ((reached_settings σ) r)
      ∙ unless_true (sound σ x d) 3 _ (reached_sound r)
