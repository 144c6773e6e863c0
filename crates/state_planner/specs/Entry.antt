-- What soundness and the acceptance of rows 1 to 4, 6 and 14 give, part by part.
use Rattle.std.specs.Prelude.{ℕ, ◌<◌, Bool, ◌&&◌, List, ◌≡◌, ltb}
use Rattle.std.proofs.Math.Bool.{true}
use Rattle.std.proofs.Common.{ltb-true}
use Rattle.base_laws.specs.Bools.{and_left, and_right}
use Rattle.settings_values.specs.Definitions.{nodes, settings_ok}
use Rattle.base_ids.specs.Definitions.{none}
use Rattle.base_ids.specs.Refusals.{unless_ok, unless_rest, first_left, first_right}
use Rattle.report_views.specs.Definitions.{slots_ok, kept_sound, marks_sound, plan_fits}
use Rattle.report_rows.specs.Definitions.{latest_sound}
use Rattle.state_rows.specs.Definitions.{node_refusal}
use Rattle.state_planner.specs.declared.State.{State}
use Rattle.state_planner.specs.Definitions.{sound, entry_refusal, event_refusal}

-- a sound state
pub record SoundState (σ : List ℕ) (x : State) (d : List ℕ) : Type 0 where
  pub kept-sound : kept_sound σ x.kept x.termination x.held ≡ true
  pub slots-ok : slots_ok σ x.kept x.termination x.held d ≡ true
  pub marks-sound : marks_sound x.phase x.held x.fetched x.prepared ≡ true
  pub latest-sound : latest_sound σ x.kept.number.0 x.held d x.latest ≡ true
  pub plan-fits : plan_fits x.phase σ x.kept x.termination x.held d x.plan ≡ true

module _ (σ : List ℕ) (x : State) (d : List ℕ) where
  pub sound_given : sound σ x d ≡ true → SoundState σ x d
  unfolding sound
  sound_given h =
      let k = kept_sound σ x.kept x.termination x.held in
      let s = slots_ok σ x.kept x.termination x.held d in
      let m = marks_sound x.phase x.held x.fetched x.prepared in
      let l = latest_sound σ x.kept.number.0 x.held d x.latest in
      let p = plan_fits x.phase σ x.kept x.termination x.held d x.plan in
      let ksml : (k && s && m && l) ≡ true = and_left (k && s && m && l) p h in
      let ksm : (k && s && m) ≡ true = and_left (k && s && m) l ksml in
      let ks : (k && s) ≡ true = and_left (k && s) m ksm in
      record {
        kept-sound = and_left k s ks;
        slots-ok = and_right k s ks;
        marks-sound = and_right (k && s) m ksm;
        latest-sound = and_right (k && s && m) l ksml;
        plan-fits = and_right (k && s && m && l) p h;
      }

-- rows 1 to 4 do not refuse
pub record Entered (lengths : Bool) (σ : List ℕ) (x : State) (d : List ℕ) (inPhase : Bool) : Type 0 where
  pub lengths-ok : lengths ≡ true
  pub settings-ok : settings_ok σ ≡ true
  pub state_sound : sound σ x d ≡ true
  pub in-phase : inPhase ≡ true

pub entry_given : (lengths : Bool) (σ : List ℕ) (x : State) (d : List ℕ) (inPhase : Bool) → entry_refusal lengths σ x d inPhase ≡ none
    → Entered lengths σ x d inPhase
unfolding entry_refusal
entry_given lengths σ x d inPhase h0 =
    let h1 = unless_rest lengths 0 _ h0 in
    let h2 = unless_rest (settings_ok σ) 1 _ h1 in
    let h3 = unless_rest (sound σ x d) 2 _ h2 in
    record {
      lengths-ok = unless_ok lengths 0 _ h0;
      settings-ok = unless_ok (settings_ok σ) 1 _ h1;
      state_sound = unless_ok (sound σ x d) 2 _ h2;
      in-phase = unless_ok inPhase 3 none h3;
    }

-- nor do rows 6 and 14
pub record NodeTaken (lengths : Bool) (σ : List ℕ) (x : State) (d : List ℕ) (inPhase : Bool) (n : ℕ) (ok : Bool) : Type 0 where
  pub entered : Entered lengths σ x d inPhase
  pub node_below : n < nodes σ
  pub node-ok : ok ≡ true

pub node_given : (lengths : Bool) (σ : List ℕ) (x : State) (d : List ℕ) (inPhase : Bool) (n : ℕ) (ok : Bool)
    → event_refusal lengths σ x d inPhase n ok ≡ none → NodeTaken lengths σ x d inPhase n ok
unfolding event_refusal node_refusal
node_given lengths σ x d inPhase n ok h0 =
    let h1 = first_right (entry_refusal lengths σ x d inPhase) _ h0 in
    record {
      entered = entry_given lengths σ x d inPhase (first_left _ _ h0);
      node_below = ltb-true n (nodes σ) (unless_ok (ltb n (nodes σ)) 5 _ h1);
      node-ok = unless_ok ok 13 none (unless_rest (ltb n (nodes σ)) 5 _ h1);
    }
