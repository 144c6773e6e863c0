-- What no refusal means, part by part: a record for each list of rows. Those of a sound state, of what is kept soundly and of
-- rows 1 to 4, 6 and 14 are passed on.
use Rattle.std.specs.Prelude.{ℕ, ◌<◌, true, ◌||◌, List, ◌≡◌, refl}
use Rattle.std.proofs.Math.Bool.{not}
use Rattle.std.proofs.Math.Logic.{⊎_elim}
use Rattle.base_laws.specs.Bools.{either, clash, and_both, or_left, or_right, not_of_false}
use Rattle.base_laws.specs.Below.{all_of}
use Rattle.base_laws.specs.Definitions.{has}
use Rattle.base_ids.specs.Definitions.{none}
use Rattle.base_ids.specs.Refusals.{unless_ok, unless_rest, first_left, first_right}
use Rattle.message_format.specs.declared.Form.TheVariants.{Report}
use Rattle.message_format.specs.Definitions.{message_refusal, contents_of}
use Rattle.report_views.specs.declared.Layout.{Layout}
use Rattle.report_views.specs.declared.Termination.{Termination}
use Rattle.report_views.specs.declared.Plan.{Plan}
use Rattle.report_views.specs.declared.Phase.{Phase}
use Rattle.report_views.specs.declared.Phase.TheVariants.{Gathering, Ordered, Preparing, Committed}
use Rattle.report_views.specs.Definitions.{row12, row13, slot_ok, slots_ok, view_sound, nothing_kept, kept_sound, marks_sound, plan_fits, is_gathering, is_ordered, is_preparing}
use Rattle.report_rows.specs.Definitions.{row18}
use Rattle.report_kept.specs.Definitions.{kept_refusal, refusal_beside}
use Rattle.plan_restart.specs.Kept.{nothing_number}
use Rattle.state_planner.specs.declared.State.{State}
use Rattle.state_planner.specs.Definitions.{sound, desk_ok, entry_refusal, report_refusal}
pub use Rattle.plan_restart.specs.Kept.{SoundKept, kept_given}
pub use Rattle.state_planner.specs.Entry.{SoundState, sound_given, Entered, entry_given, NodeTaken, node_given}

-- ---- what is kept, and the whole state

module _ (σ : List ℕ) (v : Layout) (t : Termination) (held : ℕ) where
  pub kept_test : SoundKept σ v t held → kept_sound σ v t held ≡ true
  unfolding kept_sound
  kept_test p =
      and_both
      (and_both (⊎_elim (λ e. or_left (view_sound σ v) e) (λ e. or_right (nothing_kept v t held) e) p.view_kept) p.term-sound)
      p.held_within

  -- a view with a number is kept soundly
  pub kept_view : SoundKept σ v t held → (v.number.0 ≡ 0 → ⊥) → view_sound σ v ≡ true
  kept_view p other = ⊎_elim (λ e. absurd (other (nothing_number σ v t held e))) (λ e. e) p.view_kept

pub sound-test : (σ : List ℕ) (x : State) (d : List ℕ) → SoundState σ x d → sound σ x d ≡ true
unfolding sound
sound-test σ x d p =
    and_both (and_both (and_both (and_both p.kept-sound p.slots-ok) p.marks-sound) p.latest-sound) p.plan-fits

-- ---- the held slots

module _ (σ : List ℕ) (v : Layout) (t : Termination) (held : ℕ) where
  pub slots_of : (d : List ℕ) → ((n : ℕ) → n < 32 → has held n ≡ true → slot_ok σ v t d n ≡ true) → slots_ok σ v t held d ≡ true
  unfolding slots_ok
  slots_of d f =
      all_of 32 (λ n. not (has held n) || slot_ok σ v t d n) (λ n l.
      ⊎_elim (λ e. or_right (not (has held n)) (f n l e)) (λ e. or_left (slot_ok σ v t d n) (not_of_false e)) (either (has held n)))

-- ---- phases

pub gathering_is : (p : Phase) → is_gathering p ≡ true → p ≡ Gathering
gathering_is Gathering g = refl
gathering_is Ordered g = clash g refl
gathering_is Preparing g = clash g refl
gathering_is Committed g = clash g refl

pub ordered_is : (p : Phase) → is_ordered p ≡ true → p ≡ Ordered
ordered_is Gathering g = clash g refl
ordered_is Ordered g = refl
ordered_is Preparing g = clash g refl
ordered_is Committed g = clash g refl

pub preparing_is : (p : Phase) → is_preparing p ≡ true → p ≡ Preparing
preparing_is Gathering g = clash g refl
preparing_is Ordered g = clash g refl
preparing_is Preparing g = refl
preparing_is Committed g = clash g refl

-- while gathering there are no marks and no plan, whatever is kept and held
pub marks_still : (p : Phase) (held more fetched prepared : ℕ) → p ≡ Gathering → marks_sound p held fetched prepared ≡ true
    → marks_sound p more fetched prepared ≡ true
unfolding marks_sound
marks_still p held more fetched prepared e h = rw e (rw e at h)

pub plan_still : (p : Phase) (σ : List ℕ) (v u : Layout) (t r : Termination) (held more : ℕ) (c d : List ℕ) (q : Plan) → p ≡ Gathering
    → plan_fits p σ v t held c q ≡ true → plan_fits p σ u r more d q ≡ true
unfolding plan_fits
plan_still p σ v u t r held more c d q e h = rw e (rw e at h)

-- ---- no refusal

-- the rows of a report
pub record ReportRows (σ : List ℕ) (x : State) (d w : List ℕ) : Type 0 where
  pub entered : Entered (desk_ok d) σ x d (is_gathering x.phase)
  pub message_taken : message_refusal Report σ w ≡ none
  pub row18-holds : row18 x.latest (contents_of w) ≡ true
  pub row12-holds : row12 σ x.kept (contents_of w) ≡ true
  pub row13-holds : row13 σ x.kept x.termination (contents_of w) ≡ true

pub report_given : (σ : List ℕ) (x : State) (d w : List ℕ) → report_refusal σ x d w ≡ none → ReportRows σ x d w
unfolding report_refusal refusal_beside kept_refusal
report_given σ x d w h0 =
    let h1 = first_right (entry_refusal (desk_ok d) σ x d (is_gathering x.phase)) _ h0 in
    let h2 = first_right (message_refusal Report σ w) _ h1 in
    let h3 = unless_rest (row18 x.latest (contents_of w)) 17 _ h2 in
    let h4 = unless_rest (row12 σ x.kept (contents_of w)) 11 _ h3 in
    record {
      entered = entry_given (desk_ok d) σ x d (is_gathering x.phase) (first_left _ _ h0);
      message_taken = first_left _ _ h1;
      row18-holds = unless_ok (row18 x.latest (contents_of w)) 17 _ h2;
      row12-holds = unless_ok (row12 σ x.kept (contents_of w)) 11 _ h3;
      row13-holds = unless_ok (row13 σ x.kept x.termination (contents_of w)) 12 none h4;
    }
