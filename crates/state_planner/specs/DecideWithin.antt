-- What an offer leads to.
use Rattle.std.specs.Prelude.{ℕ, true, false, List, ◌≡◌}
use Rattle.std.proofs.Math.Logic.{inl, inr, ⊎_elim}
use Rattle.std.proofs.Math.Path.{ap}
use Rattle.base_laws.specs.Bools.{clash}
use Rattle.base_ids.specs.Definitions.{accepted}
use Rattle.report_views.specs.declared.Plan.{Plan}
use Rattle.report_views.specs.declared.Quorum.{Quorum}
use Rattle.plan_restart.specs.declared.rounds.Offered.{Offered}
use Rattle.plan_restart.specs.Offers.{Offers}
use Rattle.state_planner.specs.declared.State.{State}
use Rattle.state_planner.specs.declared.Decision.{Decision}
use Rattle.state_planner.specs.declared.DecidedWithin.{DecidedWithin}
use Rattle.state_planner.specs.Definitions.{decide_refusal, still_within, DecidesWithin}
use Rattle.state_planner.specs.Decide.{state_by, decision_by}

-- what an offer leads to: a plan to ordered, and a wait changes nothing
abbrev pub within_by : Quorum → State → Plan → ℕ → DecidedWithin
within_by q x p gap = record { state = state_by q x p; decision = decision_by q; gap = gap }

module _ (σ : List ℕ) (x : State) (d : List ℕ) (n : ℕ) where
  -- a refusal
  pub within_refused : (r : DecidedWithin) → accepted (decide_refusal σ x d) ≡ false
      → r ≡ still_within x (Decision.Refused (decide_refusal σ x d)) → DecidesWithin σ x d n r
  within_refused r f e = record { refused = λ h. e; waits = λ ok reason h. clash ok f; answers = λ ok h. clash ok f }

  -- an offer
  pub within-by : accepted (decide_refusal σ x d) ≡ true → (w : Offered) → Offers σ x.kept x.termination x.held d n w
      → DecidesWithin σ x d n (within_by w.verdict.quorum x w.verdict.plan w.gap)
  unfolding state_by decision_by
  within-by taken w k =
      record {
        refused = λ f. clash taken f;
        waits = λ ok reason h. ap (λ (v : Offered). within_by v.verdict.quorum x v.verdict.plan v.gap) (k.waits reason h);
        answers = λ ok h.
            ⊎_elim
            (λ p. inl (record {
              plan = w.verdict.plan;
              gap = w.gap;
              given = ap (λ (q : Quorum). within_by q x w.verdict.plan w.gap) p.met;
              plans = p.plans;
            }))
            (λ s. inr (record {
              group = s.group;
              given = ap (λ (v : Offered). within_by v.verdict.quorum x v.verdict.plan v.gap) s.given;
              lowest = s.lowest;
            }))
            (k.answers h);
      }
