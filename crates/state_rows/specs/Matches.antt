-- A plan held against what the desk tells: the same as the plan's soundness where that is the held reports'.
use Rattle.std.specs.Prelude.{ℕ, ◌+◌, Bool, true, false, cond, ◌&&◌, List, ◌≡◌, refl}
use Rattle.std.proofs.Common.{ap}
use Rattle.std.proofs.Math.Dec.{eqb}
use Rattle.base_laws.specs.Definitions.{all_below}
use Rattle.base_laws.specs.Below.{all_cong}
use Rattle.settings_values.specs.Definitions.{Settings}
use Rattle.place_groups.specs.Definitions.{group_valid}
use Rattle.report_views.specs.declared.Layout.{Layout}
use Rattle.report_views.specs.declared.Termination.{Termination}
use Rattle.report_views.specs.declared.Plan.{Plan}
use Rattle.report_views.specs.declared.Phase.{Phase}
use Rattle.report_views.specs.declared.Phase.TheVariants.{Gathering, Ordered, Preparing, Committed}
use Rattle.report_views.specs.Definitions.{mask_at, quorum_of, slots_ok, holders_of, targets_of, is_met, layout_tidy, shard_planned, all_moves, plan_blank, plan_sound, plan_fits}
use Rattle.report_views.specs.PlanLaws.{same_shard}
use Rattle.report_views.proofs.PlanLaws.{planned_same}
use Rattle.plan_quorum.specs.Quorum.{quorum_by}
use Rattle.plan_seen.specs.declared.Seen.{Seen}
use Rattle.plan_seen.specs.Sight.{seen_of, seen_holders, seen_targets, quorum_seen}

-- the view after v, with all held nodes
unfoldable pub follows : Layout → ℕ → Layout → Bool
follows v held w = eqb w.number.0 (v.number.0 + 1) && eqb w.members held

-- the plan's holders and targets are those that the desk tells
unfoldable pub same_shards : Plan → Seen → Bool
same_shards p x = all_below 16 (same_shard p x.holders x.targets)

unfoldable pub groups_valid : List ℕ → ℕ → Layout → Bool
groups_valid σ held w = all_below 4 (group_valid σ held (mask_at w))

unfoldable pub matches : List ℕ → Layout → ℕ → Plan → Seen → Bool
matches σ v held p x =
    is_met (quorum_by σ v held x.holders) && follows v held p.layout && layout_tidy σ p.layout && same_shards p x
    && groups_valid σ held p.layout
    && eqb p.total (all_moves σ v p.layout)

regroup : (x n m : Bool) → (x && (n && m)) ≡ (x && n && m)
regroup true n m = refl
regroup false n m = refl

module _ (σ : List ℕ) (v : Layout) (t : Termination) (held : ℕ) (d : List ℕ) (p : Plan) where
  by_standing : is_met (quorum_of σ v t held d) && follows v held p.layout && layout_tidy σ p.layout
      && all_below 16 (same_shard p (holders_of σ v t held d) (targets_of σ v t held d)) && groups_valid σ held p.layout
      && eqb p.total (all_moves σ v p.layout)
      ≡ plan_sound σ v t held d p
  unfolding follows groups_valid plan_sound
  by_standing =
      let e : all_below 16 (same_shard p (holders_of σ v t held d) (targets_of σ v t held d)) ≡ all_below 16 (shard_planned σ v t held d p) =
      all_cong 16 (same_shard p (holders_of σ v t held d) (targets_of σ v t held d)) (shard_planned σ v t held d p) (planned_same σ v t held d p) in
      simp e
      (ap (λ (b : Bool). b && layout_tidy σ p.layout && all_below 16 (shard_planned σ v t held d p) && all_below 4 (group_valid σ held (mask_at p.layout)) && eqb p.total (all_moves σ v p.layout))
      (regroup (is_met (quorum_of σ v t held d)) (eqb p.layout.number.0 (v.number.0 + 1)) (eqb p.layout.members held)))

  pub matches_sound : Settings σ → slots_ok σ v t held d ≡ true → (x : Seen) → x ≡ seen_of σ v t held d
      → matches σ v held p x ≡ plan_sound σ v t held d p
  unfolding matches same_shards
  matches_sound right ok x e =
      rw (quorum_seen σ v t held d x e right ok, seen_holders σ v t held d x e ok, seen_targets σ v t held d x e ok) by_standing

-- ---- the phases in which a plan stands

abbrev pub has_plan : Phase → Bool
has_plan Gathering = false
has_plan Ordered = true
has_plan Preparing = true
has_plan Committed = true

-- the plan is as the phase says, by what is seen
unfoldable pub fits_seen : Phase → List ℕ → Layout → ℕ → Seen → Plan → Bool
fits_seen phase σ v held x p = cond (has_plan phase) (matches σ v held p x) (plan_blank p)

module _ (phase : Phase) (σ : List ℕ) (v : Layout) (held : ℕ) (x : Seen) (p : Plan) where
  pub fits_blank : has_plan phase ≡ false → plan_blank p ≡ fits_seen phase σ v held x p
  unfolding fits_seen
  fits_blank h = rw h

  pub fits_matches : has_plan phase ≡ true → matches σ v held p x ≡ fits_seen phase σ v held x p
  unfolding fits_seen
  fits_matches h = rw h

-- what is seen is what the desk d tells, with sound slots
pub fits_told : (phase : Phase) (σ : List ℕ) (v : Layout) (t : Termination) (held : ℕ) (d : List ℕ) (p : Plan) (x : Seen) → x ≡ seen_of σ v t held d
    → Settings σ → slots_ok σ v t held d ≡ true → fits_seen phase σ v held x p ≡ plan_fits phase σ v t held d p
unfolding fits_seen plan_fits
fits_told Gathering σ v t held d p x e right ok = refl
fits_told Ordered σ v t held d p x e right ok = matches_sound σ v t held d p right ok x e
fits_told Preparing σ v t held d p x e right ok = matches_sound σ v t held d p right ok x e
fits_told Committed σ v t held d p x e right ok = matches_sound σ v t held d p right ok x e
