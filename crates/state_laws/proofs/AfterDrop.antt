-- An accepted drop leads to a sound state: with fewer held nodes what was sound while gathering is sound, and gathering anew has
-- no marks and no plan.
use Rattle.std.specs.Prelude.{ℕ, true, not, List, ◌≡◌}
use Rattle.std.proofs.Math.Path.{refl}
use Rattle.base_laws.specs.Bools.{clash}
use Rattle.base_laws.specs.Definitions.{all_below, has}
use Rattle.base_laws.proofs.Masks.{subset_zero}
use Rattle.base_ids.specs.Definitions.{none}
use Rattle.report_views.specs.declared.Phase.{Phase}
use Rattle.report_views.specs.declared.Phase.TheVariants.{Gathering, Ordered, Preparing, Committed}
use Rattle.report_views.specs.Definitions.{layout_blank, marks_sound, plan_blank, plan_fits, is_committed}
use Rattle.state_planner.specs.declared.State.{State}
use Rattle.state_planner.specs.Definitions.{sound, restarted, desk_ok, drop_refusal, dropped_in, after_drop}
use Rattle.state_laws.specs.Parts.{SoundState, sound_given, sound-test, node_given}
use Rattle.state_laws.specs.AfterDrop.{kept_fewer, slots_fewer, latest_fewer, fewer_sound}

module _ (σ : List ℕ) (x : State) (d : List ℕ) (n : ℕ) (before : SoundState σ x d) where
  -- gathering anew
  restarted_sound : sound σ (restarted x) d ≡ true
  unfolding restarted marks_sound plan_fits plan_blank layout_blank all_below
  restarted_sound =
      sound-test σ (restarted x) d
      (record {
        kept-sound = kept_fewer σ x.kept x.termination x.held 0 (subset_zero x.held) before.kept-sound;
        slots-ok = slots_fewer σ x.kept x.termination x.held 0 (subset_zero x.held) d before.slots-ok;
        marks-sound = refl;
        latest-sound = latest_fewer σ x.kept.number.0 x.held 0 d x.latest (subset_zero x.held) before.latest-sound;
        plan-fits = refl;
      })

  dropped_sound : (p : Phase) → x.phase ≡ p → not (is_committed p) ≡ true → sound σ (dropped_in p x n) d ≡ true
  unfolding dropped_in
  dropped_sound Gathering e g = (fewer_sound σ x d n before) e
  dropped_sound Ordered e g = restarted_sound
  dropped_sound Preparing e g = restarted_sound
  dropped_sound Committed e g = clash g refl

pub drop_sound : (σ : List ℕ) (x : State) (d : List ℕ) (n : ℕ) → drop_refusal σ x d n ≡ none → sound σ (after_drop x n) d ≡ true
unfolding drop_refusal
drop_sound σ x d n h =
    let taken = node_given (desk_ok d) σ x d (not (is_committed x.phase)) n (has x.held n) h in
    dropped_sound σ x d n (sound_given σ x d taken.entered.state_sound) x.phase refl taken.entered.in-phase
