-- That decide's answer follows from its refusal, or from the verdict on what is kept and the held reports.
use Rattle.std.specs.Prelude.{ℕ, true, false, List, ◌≡◌, length}
use Rattle.std.proofs.Math.Logic.{inl, inr, ⊎_elim}
use Rattle.std.proofs.Math.Path.{ap}
use Rattle.std.proofs.Common.{eqb-true}
use Rattle.base_laws.specs.Bools.{clash}
use Rattle.settings_values.specs.Definitions.{Settings}
use Rattle.settings_values.specs.Laws.{settings_give}
use Rattle.base_ids.specs.Definitions.{accepted}
use Rattle.base_ids.specs.Refusals.{accepted_none}
use Rattle.report_views.specs.declared.Quorum.{Quorum}
use Rattle.report_views.specs.Definitions.{slots_ok, kept_sound, is_gathering}
use Rattle.plan_restart.specs.declared.Verdict.{Verdict}
use Rattle.plan_restart.specs.Restarts.{Restarts}
use Rattle.state_planner.specs.declared.State.{State}
use Rattle.state_planner.specs.declared.Decision.{Decision}
use Rattle.state_planner.specs.declared.Decided.{Decided}
use Rattle.state_planner.specs.Definitions.{desk_ok, decide_refusal, still, Decides}
use Rattle.state_planner.specs.Entry.{sound_given, Entered, entry_given}
use Rattle.state_planner.specs.Decide.{state_by, decision_by, decided_by}

module _ (σ : List ℕ) (x : State) (d : List ℕ) where
  -- a refusal
  pub decides_refused : (r : Decided) → accepted (decide_refusal σ x d) ≡ false
      → r ≡ still x (Decision.Refused (decide_refusal σ x d)) → Decides σ x d r
  decides_refused r f e =
      record { refused = λ h. e; waits = λ ok reason h. clash ok f; answers = λ ok h. clash ok f }

  module _ (taken : accepted (decide_refusal σ x d) ≡ true) where
    entered : Entered (desk_ok d) σ x d (is_gathering x.phase)
    unfolding decide_refusal
    entered = entry_given (desk_ok d) σ x d (is_gathering x.phase) (accepted_none (decide_refusal σ x d) taken)

    -- what an accepted decide gives: all that a verdict asks for
    pub decide_settings : Settings σ
    decide_settings = settings_give σ entered.settings-ok

    pub decide_desk : length d ≡ 16384
    decide_desk = eqb-true (length d) 16384 entered.lengths-ok

    pub decide_kept : kept_sound σ x.kept x.termination x.held ≡ true
    decide_kept = (sound_given σ x d entered.state_sound).kept-sound

    pub decide_slots : slots_ok σ x.kept x.termination x.held d ≡ true
    decide_slots = (sound_given σ x d entered.state_sound).slots-ok

    -- a verdict
    pub decides_by : (w : Verdict) → Restarts σ x.kept x.termination x.held d w
        → Decides σ x d (decided_by w.quorum x w.plan)
    unfolding state_by decision_by
    decides_by w k =
        record {
          refused = λ f. clash taken f;
          waits = λ ok reason h. ap (λ (v : Verdict). decided_by v.quorum x v.plan) (k.waits reason h);
          answers = λ ok h.
              ⊎_elim
              (λ p. inl (record {
                plan = w.plan;
                given = ap (λ (q : Quorum). decided_by q x w.plan) p.met;
                plans = p.plans;
              }))
              (λ s. inr (record {
                group = s.group;
                given = ap (λ (v : Verdict). decided_by v.quorum x v.plan) s.given;
                lowest = s.lowest;
              }))
              (k.answers h);
        }
