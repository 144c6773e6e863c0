-- What follows from what decide with improving rounds promises: there is one outcome, it refuses and waits just as decide does, no valid
-- placement has fewer moves by more than the gap, and with 128 rounds none has fewer.
use Rattle.std.specs.Prelude.{ℕ, ◌+◌, ◌^◌, ◌≤◌, ◌<◌, min, true, List, ◌≡◌, refl}
use Rattle.std.proofs.Common.{⊎_elim, sym, ap, ◌∙◌, subst, arith}
use Rattle.base_laws.specs.Bools.{either}
use Rattle.base_ids.specs.Definitions.{accepted}
use Rattle.settings_values.specs.Definitions.{nodes}
use Rattle.place_groups.specs.Definitions.{LeastMoves, plan_moves, AllValid}
use Rattle.place_groups.specs.Chosen.{lowest_one}
use Rattle.place_rounds.specs.Definitions.{Bettered}
use Rattle.place_rounds.specs.Laws.{gap_bounds, gap_most, rounds_most}
use Rattle.report_views.specs.declared.Reason.TheVariants.{NoPlacement}
use Rattle.report_views.specs.declared.Quorum.{Quorum}
use Rattle.report_views.specs.declared.Quorum.TheVariants.{Met, Short}
use Rattle.report_views.specs.Definitions.{mask_at, quorum_of}
use Rattle.plan_restart.specs.Kept.{held_below}
use Rattle.plan_restart.specs.OneOffer.{plans_within_one, gaps_one}
use Rattle.state_planner.specs.declared.State.{State}
use Rattle.state_planner.specs.declared.Decision.{Decision}
use Rattle.state_planner.specs.declared.Decided.{Decided}
use Rattle.state_planner.specs.declared.DecidedWithin.{DecidedWithin}
use Rattle.state_planner.specs.Definitions.{planned, decide_refusal, WithPlan, Stuck, Decides, still_within, WithOffer, StuckWithin, DecidesWithin}
use Rattle.state_planner.specs.DecideLaws.{decide_settings, decide_kept}

-- the held nodes are nodes
held_inside : (σ : List ℕ) (x : State) (d : List ℕ) → accepted (decide_refusal σ x d) ≡ true → x.held < 2 ^ nodes σ
held_inside σ x d taken = held_below σ x.kept x.termination x.held (decide_kept σ x d taken)

-- a plan and no placement exclude each other
offer_or_stuck : {σ : List ℕ} {x : State} {d : List ℕ} {n : ℕ} {r q : DecidedWithin} → WithOffer σ x d n r → StuckWithin σ x q → ⊥
offer_or_stuck w s = s.lowest.none.none (mask_at w.plan.layout) (w.plans.next.valid s.group s.lowest.below)

-- one call: one outcome
pub within_unique : {σ : List ℕ} {x : State} {d : List ℕ} {n : ℕ} {r q : DecidedWithin} → DecidesWithin σ x d n r → DecidesWithin σ x d n q → r ≡ q
within_unique {σ} {x} {d} {n} {r} {q} a b =
    ⊎_elim (λ taken. by taken (quorum_of σ x.kept x.termination x.held d) refl) (λ no. a.refused no ∙ sym (b.refused no))
    (either (accepted (decide_refusal σ x d)))
  where
    plans : accepted (decide_refusal σ x d) ≡ true → WithOffer σ x d n r → WithOffer σ x d n q → r ≡ q
    plans taken w y =
        let right = decide_settings σ x d taken in
        let inside = held_inside σ x d taken in
        let p : w.plan ≡ y.plan = plans_within_one right inside refl w.plans y.plans in
        let g : w.gap ≡ y.gap = gaps_one right inside refl w.plans y.plans in
        w.given ∙ ((λ i. record { state = planned x (p i); decision = Decision.Planned; gap = g i }) ∙ sym y.given)

    none : StuckWithin σ x r → StuckWithin σ x q → r ≡ q
    none s t =
        s.given
        ∙ (ap (λ (g : ℕ). still_within x (Decision.Wait (NoPlacement g))) (lowest_one σ x.held s.group t.group s.lowest t.lowest) ∙ sym t.given)

    by : accepted (decide_refusal σ x d) ≡ true → (k : Quorum) → quorum_of σ x.kept x.termination x.held d ≡ k → r ≡ q
    by taken (Short reason) h = a.waits taken reason h ∙ sym (b.waits taken reason h)
    by taken Met h =
        ⊎_elim (λ w. ⊎_elim (λ y. plans taken w y) (λ t. absurd (offer_or_stuck w t)) (b.answers taken h))
        (λ s. ⊎_elim (λ y. absurd (offer_or_stuck y s)) (λ t. none s t) (b.answers taken h))
        (a.answers taken h)

-- decide refuses, waits for the same reason and plans with it
pub waits_alike : {σ : List ℕ} {x : State} {d : List ℕ} {n : ℕ} {r : DecidedWithin} {q : Decided} → DecidesWithin σ x d n r → Decides σ x d q
    → r.decision ≡ q.decision
waits_alike {σ} {x} {d} {n} {r} {q} a b =
    ⊎_elim (λ taken. by taken (quorum_of σ x.kept x.termination x.held d) refl) (λ no. ours (a.refused no) ∙ sym (theirs (b.refused no)))
    (either (accepted (decide_refusal σ x d)))
  where
    ours : {o : DecidedWithin} → r ≡ o → r.decision ≡ o.decision
    ours e = ap (λ (o : DecidedWithin). o.decision) e

    theirs : {o : Decided} → q ≡ o → q.decision ≡ o.decision
    theirs e = ap (λ (o : Decided). o.decision) e

    apart : WithOffer σ x d n r → Stuck σ x q → ⊥
    apart w s = s.lowest.none.none (mask_at w.plan.layout) (w.plans.next.valid s.group s.lowest.below)

    beside : WithPlan σ x d q → StuckWithin σ x r → ⊥
    beside w s = s.lowest.none.none (mask_at w.plan.layout) (w.plans.chosen s.group s.lowest.below).least.valid

    by : accepted (decide_refusal σ x d) ≡ true → (k : Quorum) → quorum_of σ x.kept x.termination x.held d ≡ k → r.decision ≡ q.decision
    by taken (Short reason) h = ours (a.waits taken reason h) ∙ sym (theirs (b.waits taken reason h))
    by taken Met h =
        ⊎_elim (λ w. ⊎_elim (λ y. ours w.given ∙ sym (theirs y.given)) (λ t. absurd (apart w t)) (b.answers taken h))
        (λ s.
        ⊎_elim (λ y. absurd (beside y s))
        (λ t.
        ours s.given
        ∙ (ap (λ (g : ℕ). Decision.Wait (NoPlacement g)) (lowest_one σ x.held s.group t.group s.lowest t.lowest) ∙ sym (theirs t.given)))
        (b.answers taken h))
        (a.answers taken h)

module _ {σ : List ℕ} {x : State} {d : List ℕ} {n : ℕ} {r : DecidedWithin} (taken : accepted (decide_refusal σ x d) ≡ true) (w : WithOffer σ x d n r) where
  -- no valid placement has fewer moves by more than the gap, decide's among them
  pub within_gap : (other : ℕ → ℕ) → AllValid σ x.held other
      → plan_moves σ (mask_at x.kept) (mask_at w.plan.layout) ≤ plan_moves σ (mask_at x.kept) other + w.gap
  within_gap other v =
      omega (
        arith,
        gap_bounds σ x.held (mask_at x.kept) (decide_settings σ x d taken) (held_inside σ x d taken) (mask_at w.plan.layout) other w.plans.next.valid v,
        w.plans.gapped,
      )

  -- with 128 rounds or more none has fewer
  pub within_least : 128 ≤ n → (g : ℕ) → g < 4 → LeastMoves σ x.held (mask_at x.kept) (mask_at w.plan.layout) g
  within_least l =
      let most : min n 128 ≡ 128 = omega arith in
      rounds_most σ x.held (mask_at x.kept) (decide_settings σ x d taken) (held_inside σ x d taken)
      (subst (λ (k : ℕ). Bettered σ x.held (mask_at x.kept) k (mask_at w.plan.layout)) most w.plans.bettered)

  gap_small : w.gap ≤ 128
  gap_small =
      omega (arith, w.plans.gapped, gap_most σ x.held (mask_at x.kept) (decide_settings σ x d taken) (held_inside σ x d taken) (mask_at w.plan.layout) w.plans.next.valid)

-- a gap is at most 128
pub within_small : {σ : List ℕ} {x : State} {d : List ℕ} {n : ℕ} {r : DecidedWithin} → DecidesWithin σ x d n r → r.gap ≤ 128
within_small {σ} {x} {d} {n} {r} a =
    ⊎_elim (λ taken. by taken (quorum_of σ x.kept x.termination x.held d) refl) (λ no. nothing (a.refused no)) (either (accepted (decide_refusal σ x d)))
  where
    nothing : {b : Decision} → r ≡ still_within x b → r.gap ≤ 128
    nothing e = omega (arith, ap (λ (o : DecidedWithin). o.gap) e)

    by : accepted (decide_refusal σ x d) ≡ true → (k : Quorum) → quorum_of σ x.kept x.termination x.held d ≡ k → r.gap ≤ 128
    by taken (Short reason) h = nothing (a.waits taken reason h)
    by taken Met h = ⊎_elim (λ w. omega (arith, ap (λ (o : DecidedWithin). o.gap) w.given, gap_small taken w)) (λ s. nothing s.given) (a.answers taken h)
