-- What decide promises leads to a sound state: a wait hands the state back, and a plan that decide promises is a sound one, with
-- holders and targets read from their tables.
use Rattle.std.specs.Prelude.{ℕ, ◌<◌, Bool, true, false, cond, ◌&&◌, List, ◌⊎◌, ◌≡◌, refl, eqb, ltb, get_or}
use Rattle.std.proofs.Common.{inl, inr, ⊎_elim, ap, ◌∙◌, eq-eqb}
use Rattle.std.proofs.Math.Path.{subst⁻¹}
use Rattle.base_laws.specs.Bools.{and_both}
use Rattle.base_laws.specs.Definitions.{all_below}
use Rattle.base_laws.specs.Below.{all_of}
use Rattle.settings_values.specs.Definitions.{shards}
use Rattle.base_ids.specs.declared.Node.{Node}
use Rattle.base_ids.specs.declared.Position.{Position}
use Rattle.base_ids.specs.declared.Refusal.{Refusal}
use Rattle.base_ids.specs.Definitions.{none, accepted}
use Rattle.place_groups.specs.Definitions.{group_valid}
use Rattle.report_views.specs.declared.Plan.{Plan}
use Rattle.report_views.specs.declared.Quorum.{Quorum}
use Rattle.report_views.specs.declared.Quorum.TheVariants.{Met, Short}
use Rattle.report_views.specs.Definitions.{start, is_start, mask_at, node_at, holder_at, target_at, same_position, target, holder, quorum_of, is_met, shard_planned, plan_sound, is_gathering}
use Rattle.report_views.specs.PlanLaws.{holders_at, targets_at}
use Rattle.plan_restart.specs.Definitions.{NextView}
use Rattle.plan_restart.specs.Offers.{plans_next}
use Rattle.state_planner.specs.declared.State.{State}
use Rattle.state_planner.specs.declared.Decided.{Decided}
use Rattle.state_planner.specs.Definitions.{sound, planned, desk_ok, decide_refusal, Decides, DecidesWithin}
use Rattle.state_planner.specs.declared.DecidedWithin.{DecidedWithin}
use Rattle.state_laws.specs.Parts.{entry_given}
use Rattle.state_laws.specs.AfterPlan.{plan-sound}

-- a holder and a target that are there are the ones asked for, and where there are none they are zero
shard-at : (b : Bool) (h k : ℕ) (p q : Position) → h ≡ cond b k 0 → p ≡ cond b q start
    → cond b (eqb h k && same_position p q) (eqb h 0 && is_start p) ≡ true
shard-at true h k p q e f =
    and_both (eq-eqb h k e)
    (and_both (eq-eqb p.view.0 q.view.0 (ap (λ (r : Position). r.view.0) f)) (eq-eqb p.k q.k (ap (λ (r : Position). r.k) f)))
shard-at false h k p q e f =
    and_both (eq-eqb h 0 e)
    (and_both (eq-eqb p.view.0 0 (ap (λ (r : Position). r.view.0) f)) (eq-eqb p.k 0 (ap (λ (r : Position). r.k) f)))

module _ (σ : List ℕ) (x : State) (d : List ℕ) (p : Plan) (w : NextView σ x.kept x.termination x.held d p) where
  holder_read : (s : ℕ) → s < 16 → holder_at p s ≡ cond (ltb s (shards σ)) (holder x.kept x.termination x.held d s) 0
  holder_read s l = ap (λ (h : List Node). node_at h s) w.holders ∙ holders_at σ x.kept x.termination x.held d s l

  target_read : (s : ℕ) → s < 16 → target_at p s ≡ cond (ltb s (shards σ)) (target x.kept x.termination x.held d s) start
  target_read s l =
      ap (λ (h : List Position). get_or h s start) w.targets ∙ targets_at σ x.kept x.termination x.held d s l

  shards_planned : all_below 16 (shard_planned σ x.kept x.termination x.held d p) ≡ true
  unfolding shard_planned
  shards_planned =
      all_of 16 (shard_planned σ x.kept x.termination x.held d p) (λ s l.
      shard-at (ltb s (shards σ)) (holder_at p s) (holder x.kept x.termination x.held d s) (target_at p s)
      (target x.kept x.termination x.held d s)
      (holder_read s l)
      (target_read s l))

  -- what is promised of a plan makes it sound
  pub plans_sound : quorum_of σ x.kept x.termination x.held d ≡ Met → plan_sound σ x.kept x.termination x.held d p ≡ true
  unfolding plan_sound is_met
  plans_sound met =
      and_both
      (and_both
      (and_both
      (and_both (and_both (and_both (ap is_met met) (eq-eqb _ _ w.number)) (eq-eqb _ _ w.members)) w.tidy)
      shards_planned)
      (all_of 4 (group_valid σ x.held (mask_at p.layout)) w.valid))
      (eq-eqb _ _ w.total)

-- the state as it was, or with a sound plan
abbrev pub SoundPlanned : List ℕ → State → List ℕ → State → Type 0
SoundPlanned σ x d y = (y ≡ x) ⊎ ((p : Plan) × (y ≡ planned x p) × (plan_sound σ x.kept x.termination x.held d p ≡ true))

-- it is sound
planned_sound : (σ : List ℕ) (x : State) (d : List ℕ) (y : State) → decide_refusal σ x d ≡ none → SoundPlanned σ x d y → sound σ y d ≡ true
unfolding decide_refusal
planned_sound σ x d y h k =
    ⊎_elim
    (λ e. subst⁻¹ (λ (z : State). sound σ z d ≡ true) e (entry_given (desk_ok d) σ x d (is_gathering x.phase) h).state_sound)
    (λ k. subst⁻¹ (λ (z : State). sound σ z d ≡ true) k.1 (plan-sound σ x d k.0 h k.2))
    k

module _ (σ : List ℕ) (x : State) (d : List ℕ) (r : Decided) (h : decide_refusal σ x d ≡ none) (w : Decides σ x d r) where
  -- decide hands back the state as it was, or with a sound plan
  pub decided_state : SoundPlanned σ x d r.state
  decided_state = go (quorum_of σ x.kept x.termination x.held d) refl
    where
      ok : accepted (decide_refusal σ x d) ≡ true
      ok = ap (λ (k : Refusal). accepted k) h

      go : (q : Quorum) → quorum_of σ x.kept x.termination x.held d ≡ q
          → SoundPlanned σ x d r.state
      go Met e =
          ⊎_elim
          (λ k. inr (k.plan, ap (λ (y : Decided). y.state) k.given, plans_sound σ x d k.plan (plans_next k.plans) e))
          (λ k. inl (ap (λ (y : Decided). y.state) k.given))
          (w.answers ok e)
      go (Short reason) e = inl (ap (λ (y : Decided). y.state) (w.waits ok reason e))

  pub decide_sound : sound σ r.state d ≡ true
  decide_sound = planned_sound σ x d r.state h decided_state

module _ (σ : List ℕ) (x : State) (d : List ℕ) (n : ℕ) (r : DecidedWithin) (h : decide_refusal σ x d ≡ none) (w : DecidesWithin σ x d n r) where
  -- with rounds: the same
  pub within_state : SoundPlanned σ x d r.state
  within_state = go (quorum_of σ x.kept x.termination x.held d) refl
    where
      ok : accepted (decide_refusal σ x d) ≡ true
      ok = ap (λ (k : Refusal). accepted k) h

      go : (q : Quorum) → quorum_of σ x.kept x.termination x.held d ≡ q → SoundPlanned σ x d r.state
      go Met e =
          ⊎_elim
          (λ k. inr (k.plan, ap (λ (y : DecidedWithin). y.state) k.given, plans_sound σ x d k.plan k.plans.next e))
          (λ k. inl (ap (λ (y : DecidedWithin). y.state) k.given))
          (w.answers ok e)
      go (Short reason) e = inl (ap (λ (y : DecidedWithin). y.state) (w.waits ok reason e))

  pub within_sound : sound σ r.state d ≡ true
  within_sound = planned_sound σ x d r.state h within_state
