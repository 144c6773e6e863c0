-- Demand 3, from what decide promises alone: nobody finds a restart that it missed, where it plans one exists, and it waits just for
-- the first reason that applies.
use Rattle.std.specs.Prelude.{ℕ, true, List, ◌⊎◌}
use Rattle.std.proofs.Math.Logic.{inl, inr, ⊎_elim}
use Rattle.std.proofs.Math.Path.{◌≡◌, refl, ap}
use Rattle.std.proofs.Common.{sym, ◌∙◌, arith}
use Rattle.base_ids.specs.Definitions.{accepted}
use Rattle.place_groups.specs.Definitions.{LowestUnplaced}
use Rattle.place_groups.specs.Chosen.{lowest_one}
use Rattle.report_views.specs.declared.Reason.{Reason}
use Rattle.report_views.specs.declared.Reason.TheVariants.{NoView, NoPlacement}
use Rattle.report_views.specs.declared.Quorum.{Quorum}
use Rattle.report_views.specs.declared.Quorum.TheVariants.{Met, Short}
use Rattle.report_views.specs.Definitions.{mask_at, quorum_of}
use Rattle.plan_masks.specs.Definitions.{Restartable}
use Rattle.state_planner.specs.declared.State.{State}
use Rattle.state_planner.specs.declared.Decision.{Decision}
use Rattle.state_planner.specs.declared.Decided.{Decided}
use Rattle.state_planner.specs.Definitions.{decide_refusal, still, Decides, WithPlan}

-- a restart exists with the held nodes
abbrev pub Possible : List ℕ → State → List ℕ → Type 0
Possible σ x d = Restartable σ x.kept x.termination x.held d

module _ (σ : List ℕ) (x : State) (d : List ℕ) (r : Decided) (decides : Decides σ x d r) (taken : accepted (decide_refusal σ x d) ≡ true) where
  -- where a restart exists decide plans one
  pub plans_where_possible : Possible σ x d → WithPlan σ x d r
  plans_where_possible p =
      ⊎_elim (λ w. w)
      (λ s. let q = p.placements s.group s.lowest.below in absurd (s.lowest.none.none q.0 q.1))
      (decides.answers taken p.quorum)

  -- where decide plans a restart exists
  pub possible_where_planned : r.decision ≡ Decision.Planned → Possible σ x d
  possible_where_planned e = by (quorum_of σ x.kept x.termination x.held d) refl
    where
      by : (q : Quorum) → quorum_of σ x.kept x.termination x.held d ≡ q → Possible σ x d
      by (Short reason) h =
          let w = ap (λ (o : Decided). o.decision) (decides.waits taken reason h) in
          let z : ◌≡◌ {A = ℕ} 0 1 = cc in
          absurd (omega arith)
      by Met h =
          ⊎_elim
          (λ w. record { quorum = h; placements = λ g l. (mask_at w.plan.layout, (w.plans.chosen g l).least.valid) })
          (λ s.
          let w = ap (λ (o : Decided). o.decision) s.given in
          let z : ◌≡◌ {A = ℕ} 0 1 = cc in
          absurd (omega arith))
          (decides.answers taken h)

-- the reason is the first that applies: one of waits 1 to 4, or where none of them does the lowest subgroup without a valid
-- placement
pub record LowestNamed (σ : List ℕ) (x : State) (d : List ℕ) (reason : Reason) : Type 0 where
  pub quorum : quorum_of σ x.kept x.termination x.held d ≡ Met
  pub group : ℕ
  pub lowest : LowestUnplaced σ x.held group
  pub named : reason ≡ NoPlacement group

abbrev pub FirstReason : List ℕ → State → List ℕ → Reason → Type 0
FirstReason σ x d reason =
    (quorum_of σ x.kept x.termination x.held d ≡ Short reason) ⊎ LowestNamed σ x d reason

-- the reason of a wait
unfoldable reason_of : Decision → Reason
reason_of Decision.Planned = NoView
reason_of (Decision.Wait reason) = reason
reason_of (Decision.Refused refusal) = NoView

module _ (σ : List ℕ) (x : State) (d : List ℕ) (r : Decided) (decides : Decides σ x d r) (taken : accepted (decide_refusal σ x d) ≡ true) where
  -- for the first reason that applies decide waits, and changes nothing
  pub waits_where_first : (reason : Reason) → FirstReason σ x d reason → r ≡ still x (Decision.Wait reason)
  waits_where_first reason (inl e) = decides.waits taken reason e
  waits_where_first reason (inr n) =
      ⊎_elim
      (λ w. absurd (n.lowest.none.none (mask_at w.plan.layout) (w.plans.chosen n.group n.lowest.below).least.valid))
      (λ s.
      let e : s.group ≡ n.group = lowest_one σ x.held s.group n.group s.lowest n.lowest in
      s.given ∙ ap (λ (g : ℕ). still x (Decision.Wait (NoPlacement g))) e ∙ ap (λ (k : Reason). still x (Decision.Wait k)) (sym n.named))
      (decides.answers taken n.quorum)

  -- and where it waits its reason is the first that applies
  pub first_where_waits : (reason : Reason) → r.decision ≡ Decision.Wait reason → FirstReason σ x d reason
  unfolding reason_of
  first_where_waits reason e = by (quorum_of σ x.kept x.termination x.held d) refl
    where
      by : (q : Quorum) → quorum_of σ x.kept x.termination x.held d ≡ q → FirstReason σ x d reason
      by (Short other) h =
          let w : r.decision ≡ Decision.Wait other = ap (λ (o : Decided). o.decision) (decides.waits taken other h) in
          let same : other ≡ reason = ap reason_of (sym w ∙ e) in
          inl (h ∙ ap Short same)
      by Met h =
          ⊎_elim
          (λ w.
          let p = ap (λ (o : Decided). o.decision) w.given in
          let z : ◌≡◌ {A = ℕ} 0 1 = cc in
          absurd (omega arith))
          (λ s.
          let w : r.decision ≡ Decision.Wait (NoPlacement s.group) = ap (λ (o : Decided). o.decision) s.given in
          let same : reason ≡ NoPlacement s.group = ap reason_of (sym e ∙ w) in
          inr (record { quorum = h; group = s.group; lowest = s.lowest; named = same }))
          (decides.answers taken h)
