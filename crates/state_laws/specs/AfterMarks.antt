-- An accepted fetched or prepared leads to a sound state: a held node is marked, and when all are the next phase follows. The plan
-- and what it was made from are unchanged.
use Rattle.std.specs.Prelude.{ℕ, Bool, false, cond, not, ◌&&◌, List, ◌≡◌, refl, eqb}
use Rattle.std.proofs.Math.Bool.{true}
use Rattle.std.proofs.Common.{eqb-true, eq-eqb}
use Rattle.base_laws.specs.Bools.{and_both, and_left, and_right, not_of_false}
use Rattle.base_laws.specs.Definitions.{has, subset, with}
use Rattle.base_laws.specs.Masks.{not_empty}
use Rattle.base_laws.proofs.Masks.{subset_zero, subset_with}
use Rattle.base_ids.specs.Definitions.{none}
use Rattle.report_views.specs.declared.Phase.{Phase}
use Rattle.report_views.specs.declared.Phase.TheVariants.{Ordered, Preparing, Committed}
use Rattle.report_views.specs.Definitions.{marks_sound, plan_sound, plan_fits, is_ordered, is_preparing}
use Rattle.state_planner.specs.declared.State.{State}
use Rattle.state_planner.specs.Definitions.{sound, marked, desk_ok, event_refusal, fetched_refusal, prepared_refusal, after_fetched, after_prepared}
use Rattle.state_laws.specs.Parts.{SoundState, sound_given, ordered_is, preparing_is, NodeTaken, node_given}
use Rattle.state_laws.specs.Marks.{marked_sound}

-- an event that marks a held node which lacks the mark
module _ (σ : List ℕ) (x : State) (d : List ℕ) (n : ℕ) (inPhase : Bool) (marks : ℕ) (h : event_refusal (desk_ok d) σ x d inPhase n (has x.held n && not (has marks n)) ≡ none) where
  taken : NodeTaken (desk_ok d) σ x d inPhase n (has x.held n && not (has marks n))
  taken = node_given (desk_ok d) σ x d inPhase n (has x.held n && not (has marks n)) h

  marker_phase : inPhase ≡ true
  marker_phase = taken.entered.in-phase

  marker_held : has x.held n ≡ true
  marker_held = and_left (has x.held n) (not (has marks n)) taken.node-ok

  sound_before : SoundState σ x d
  sound_before = sound_given σ x d taken.entered.state_sound

  -- all: every held node is marked now
  by_marks : (all : Bool) (phase next : Phase) (fetched prepared : ℕ)
      → (all ≡ false → marks_sound phase x.held fetched prepared ≡ true) → (all ≡ true → marks_sound next x.held fetched prepared ≡ true)
      → plan_fits phase σ x.kept x.termination x.held d x.plan ≡ true
      → plan_fits next σ x.kept x.termination x.held d x.plan ≡ true
      → sound σ (marked x (cond all next phase) fetched prepared) d ≡ true
  by_marks true phase next fetched prepared left whole k l = marked_sound σ x d sound_before next fetched prepared (whole refl) l
  by_marks false phase next fetched prepared left whole k l = marked_sound σ x d sound_before phase fetched prepared (left refl) k

module _ (σ : List ℕ) (x : State) (d : List ℕ) (n : ℕ) (h : fetched_refusal σ x d n ≡ none) where
  pub fetched_sound : sound σ (after_fetched x n) d ≡ true
  unfolding fetched_refusal after_fetched marks_sound plan_fits
  fetched_sound =
      by_marks σ x d n (is_ordered x.phase) x.fetched h (eqb (with x.fetched n) x.held) Ordered Preparing (with x.fetched n) x.prepared
      (λ e.
      and_both (and_both (subset_with x.fetched x.held n (and_left _ _ (and_left _ _ marks)) held) (not_of_false e))
      (eq-eqb x.prepared 0 unprepared))
      (λ e. rw unprepared (and_both (and_both e (subset_zero x.held)) (not_of_false (not_empty x.held n held))))
      plan plan
    where
      held : has x.held n ≡ true
      held = marker_held σ x d n (is_ordered x.phase) x.fetched h

      phase : x.phase ≡ Ordered
      phase = ordered_is x.phase (marker_phase σ x d n (is_ordered x.phase) x.fetched h)

      before : SoundState σ x d
      before = sound_before σ x d n (is_ordered x.phase) x.fetched h

      marks : (subset x.fetched x.held && not (eqb x.fetched x.held) && eqb x.prepared 0) ≡ true
      marks = rw phase at before.marks-sound

      plan : plan_sound σ x.kept x.termination x.held d x.plan ≡ true
      plan = rw phase at before.plan-fits

      unprepared : x.prepared ≡ 0
      unprepared = eqb-true x.prepared 0 (and_right (subset x.fetched x.held && not (eqb x.fetched x.held)) (eqb x.prepared 0) marks)

module _ (σ : List ℕ) (x : State) (d : List ℕ) (n : ℕ) (h : prepared_refusal σ x d n ≡ none) where
  pub prepared_sound : sound σ (after_prepared x n) d ≡ true
  unfolding prepared_refusal after_prepared marks_sound plan_fits
  prepared_sound =
      by_marks σ x d n (is_preparing x.phase) x.prepared h (eqb (with x.prepared n) x.held) Preparing Committed x.fetched (with x.prepared n)
      (λ e. and_both (and_both fetched (subset_with x.prepared x.held n prepared held)) (not_of_false e))
      (λ e. and_both fetched e) plan plan
    where
      held : has x.held n ≡ true
      held = marker_held σ x d n (is_preparing x.phase) x.prepared h

      phase : x.phase ≡ Preparing
      phase = preparing_is x.phase (marker_phase σ x d n (is_preparing x.phase) x.prepared h)

      before : SoundState σ x d
      before = sound_before σ x d n (is_preparing x.phase) x.prepared h

      marks : (eqb x.fetched x.held && subset x.prepared x.held && not (eqb x.prepared x.held)) ≡ true
      marks = rw phase at before.marks-sound

      marked_all : (eqb x.fetched x.held && subset x.prepared x.held) ≡ true
      marked_all = and_left (eqb x.fetched x.held && subset x.prepared x.held) (not (eqb x.prepared x.held)) marks

      fetched : eqb x.fetched x.held ≡ true
      fetched = and_left (eqb x.fetched x.held) (subset x.prepared x.held) marked_all

      prepared : subset x.prepared x.held ≡ true
      prepared = and_right (eqb x.fetched x.held) (subset x.prepared x.held) marked_all

      plan : plan_sound σ x.kept x.termination x.held d x.plan ≡ true
      plan = rw phase at before.plan-fits
