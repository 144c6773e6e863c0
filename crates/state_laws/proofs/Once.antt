-- Two leaders hand back the same: there is one outcome that meets decide's promise, and calls that agree on the settings, the kept
-- view, its termination, the held mask and the contents of the held reports decide the same and lay out the same plan.
use Rattle.std.specs.Prelude.{ℕ, true, List}
use Rattle.std.proofs.Math.Logic.{inl, inr, ⊎_elim}
use Rattle.std.proofs.Math.Path.{◌≡◌, refl, sym, ap}
use Rattle.std.proofs.Common.{◌∙◌, subst, arith}
use Rattle.base_laws.specs.Bools.{either}
use Rattle.base_ids.specs.Definitions.{accepted}
use Rattle.report_views.specs.declared.Layout.{Layout}
use Rattle.report_views.specs.declared.Termination.{Termination}
use Rattle.report_views.specs.declared.Plan.{Plan}
use Rattle.report_views.specs.declared.Reason.{Reason}
use Rattle.report_views.specs.declared.Reason.TheVariants.{NoPlacement}
use Rattle.report_views.specs.declared.Quorum.{Quorum}
use Rattle.report_views.specs.declared.Quorum.TheVariants.{Met, Short}
use Rattle.report_views.specs.Definitions.{quorum_of}
use Rattle.report_views.specs.Agreeing.{SameReports}
use Rattle.report_views.proofs.Agreeing.{standing_agrees}
use Rattle.plan_restart.specs.declared.Verdict.{Verdict}
use Rattle.plan_restart.specs.Restarts.{waiting, Restarts}
use Rattle.plan_restart.specs.Kept.{held_below}
use Rattle.plan_restart.specs.Unique.{restarts_one}
use Rattle.state_planner.specs.declared.State.{State}
use Rattle.state_planner.specs.declared.Decided.{Decided}
use Rattle.state_planner.specs.Definitions.{planned, decide_refusal, Decides}
use Rattle.state_planner.specs.Decide.{state_by, decision_by, decided_by}
use Rattle.state_planner.specs.DecideLaws.{decide_settings, decide_desk, decide_kept}
use Rattle.state_laws.specs.Once.{SameAsked, SameSaid}

-- ---- the verdict behind an outcome

record Behind (σ : List ℕ) (x : State) (d : List ℕ) (r : Decided) : Type 0 where
  verdict : Verdict
  restarts : Restarts σ x.kept x.termination x.held d verdict
  given : r ≡ decided_by verdict.quorum x verdict.plan

module _ {σ : List ℕ} {x : State} {d : List ℕ} {r : Decided} (decides : Decides σ x d r) (taken : accepted (decide_refusal σ x d) ≡ true) where
  behind : Behind σ x d r
  unfolding state_by decision_by
  behind = by (quorum_of σ x.kept x.termination x.held d) refl
    where
      by : (k : Quorum) → quorum_of σ x.kept x.termination x.held d ≡ k → Behind σ x d r
      by (Short reason) h =
          record {
            verdict = waiting reason;
            restarts =
                record {
                  waits = λ other g. ap (λ (z : Reason). waiting z) (let z : Short reason ≡ Short other = sym h ∙ g in cc);
                  answers = λ g. absurd (let z : Short reason ≡ Met = sym h ∙ g in let y : ◌≡◌ {A = ℕ} 0 1 = cc in omega arith);
                };
            given = decides.waits taken reason h;
          }
      by Met h =
          ⊎_elim
          (λ w.
          record {
            verdict = record { quorum = Met; plan = w.plan };
            restarts =
                record {
                  waits = λ other g. absurd (let z : Met ≡ Short other = sym h ∙ g in let y : ◌≡◌ {A = ℕ} 0 1 = cc in omega arith);
                  answers = λ g. inl (record { met = refl; plans = w.plans });
                };
            given = w.given;
          })
          (λ s.
          record {
            verdict = waiting (NoPlacement s.group);
            restarts =
                record {
                  waits = λ other g. absurd (let z : Met ≡ Short other = sym h ∙ g in let y : ◌≡◌ {A = ℕ} 0 1 = cc in omega arith);
                  answers = λ g. inr (record { group = s.group; given = refl; lowest = s.lowest });
                };
            given = s.given;
          })
          (decides.answers taken h)

-- ---- two calls

-- a verdict on two states says the same
verdict_said : (x y : State) (p : Plan) (z : Quorum) → SameSaid (decided_by z x p) (decided_by z y p)
unfolding state_by decision_by planned
verdict_said x y p Met = record { decision = refl; plan = λ h. refl }
verdict_said x y p (Short reason) = record { decision = refl; plan = λ h. absurd (let i : ◌≡◌ {A = ℕ} 0 1 = cc in omega arith) }

module _ {σ : List ℕ} {x y : State} {d e : List ℕ} {r q : Decided} (a : Decides σ x d r) (b : Decides σ y e q)
    (taken : accepted (decide_refusal σ x d) ≡ true) (also : accepted (decide_refusal σ y e) ≡ true) (same : SameAsked x y d e) where
  one_verdict : (behind a taken).verdict ≡ (behind b also).verdict
  one_verdict =
      restarts_one (decide_settings σ x d taken) (held_below σ x.kept x.termination x.held (decide_kept σ x d taken))
      (standing_agrees σ x.kept x.termination x.held d e same.reports (decide_desk σ x d taken) (decide_desk σ y e also))
      (behind a taken).restarts
      (subst (λ (v : Layout). Restarts σ v x.termination x.held e (behind b also).verdict) (sym same.kept)
      (subst (λ (t : Termination). Restarts σ y.kept t x.held e (behind b also).verdict) (sym same.termination)
      (subst (λ (h : ℕ). Restarts σ y.kept y.termination h e (behind b also).verdict) (sym same.held) (behind b also).restarts)))

  -- what the second hands back, from the first's verdict
  pub same_said : SameSaid r q
  same_said = subst (λ (w : Decided). SameSaid r w) (sym second) (subst (λ (w : Decided). SameSaid w (decided_by k y p)) (sym (behind a taken).given) (verdict_said x y p k))
    where
      k : Quorum
      k = (behind a taken).verdict.quorum

      p : Plan
      p = (behind a taken).verdict.plan

      second : q ≡ decided_by k y p
      second = (behind b also).given ∙ ap (λ (w : Verdict). decided_by w.quorum y w.plan) (sym one_verdict)

-- the same state, on desks whose held slots say the same
pub same_state : {σ : List ℕ} {x : State} {d e : List ℕ} {r q : Decided} → Decides σ x d r → Decides σ x e q
    → accepted (decide_refusal σ x d) ≡ true → accepted (decide_refusal σ x e) ≡ true → SameReports x.held d e → r ≡ q
same_state {σ} {x} {d} {e} a b taken also same =
    (behind a taken).given
    ∙ (ap (λ (w : Verdict). decided_by w.quorum x w.plan) (one_verdict a b taken also (record { kept = refl; termination = refl; held = refl; reports = same }))
    ∙ sym (behind b also).given)

-- one call: one outcome
pub decides_unique : {σ : List ℕ} {x : State} {d : List ℕ} {r q : Decided} → Decides σ x d r → Decides σ x d q → r ≡ q
decides_unique {σ} {x} {d} a b =
    ⊎_elim (λ taken. same_state a b taken taken (record { told = λ n l h. refl })) (λ no. a.refused no ∙ sym (b.refused no))
    (either (accepted (decide_refusal σ x d)))
