-- The promise of a restart leaves no freedom: verdicts on desks that give the same quorum, holders and targets are one.
use Rattle.std.specs.Prelude.{ℕ, ◌^◌, ◌<◌, ◌≤◌, true, ◌||◌, List, ◌≡◌, refl, eqb, ltb}
use Rattle.std.proofs.Common.{⊎_elim, sym, ◌∙◌, eqb-true, le-ltb}
use Rattle.std.proofs.Math.Path.{ap}
use Rattle.base_laws.specs.Bools.{clash, or-holds}
use Rattle.base_laws.specs.Below.{all_at}
use Rattle.settings_values.specs.Definitions.{nodes, shards, Settings}
use Rattle.base_ids.specs.declared.Node.{Node}
use Rattle.base_ids.specs.declared.Position.{Position}
use Rattle.place_groups.specs.Definitions.{LeastMoves}
use Rattle.place_groups.specs.Chosen.{ChosenPlan, lowest_one}
use Rattle.place_laws.specs.Whole.{chosen_whole}
use Rattle.place_layout.specs.Unique.{masks_one}
use Rattle.report_views.specs.declared.Layout.{Layout}
use Rattle.report_views.specs.declared.Termination.{Termination}
use Rattle.report_views.specs.declared.Plan.{Plan}
use Rattle.report_views.specs.declared.Quorum.{Quorum}
use Rattle.report_views.specs.declared.Quorum.TheVariants.{Met, Short}
use Rattle.report_views.specs.declared.Reason.TheVariants.{NoPlacement}
use Rattle.report_views.specs.Definitions.{mask_at, quorum_of, holders_of, targets_of, layout_tidy, all_moves}
use Rattle.report_views.specs.Standings.{Standing, standing_of}
use Rattle.plan_restart.specs.declared.Verdict.{Verdict}
use Rattle.plan_restart.specs.Definitions.{Plans}
use Rattle.plan_restart.specs.Restarts.{waiting, FindsPlan, FindsNone, Restarts}

-- nothing stands from S up
pub tidy_past : (σ : List ℕ) (w : Layout) → layout_tidy σ w ≡ true → (s : ℕ) → shards σ ≤ s → s < 16 → mask_at w s ≡ 0
unfolding layout_tidy
tidy_past σ w t s l k =
    ⊎_elim (λ e. clash e (le-ltb s (shards σ) l)) (λ e. eqb-true (mask_at w s) 0 e)
    (or-holds (ltb s (shards σ)) (eqb (mask_at w s) 0) (all_at 16 (λ i. ltb i (shards σ) || eqb (mask_at w i) 0) t s k))

pub layout_as : {n n' m m' : ℕ} {k k' : List ℕ} → n ≡ n' → m ≡ m' → k ≡ k'
    → ◌≡◌ {A = Layout} (record { number = record { 0 = n }; members = m; masks = k }) (record { number = record { 0 = n' }; members = m'; masks = k' })
layout_as a b c = λ i. record { number = record { 0 = a i }; members = b i; masks = c i }

pub plan_as : {l l' : Layout} {t t' : ℕ} {h h' : List Node} {p p' : List Position} → l ≡ l' → t ≡ t' → h ≡ h' → p ≡ p'
    → ◌≡◌ {A = Plan} (record { layout = l; total = t; holders = h; targets = p }) (record { layout = l'; total = t'; holders = h'; targets = p' })
plan_as a b c d = λ i. record { layout = a i; total = b i; holders = c i; targets = d i }

-- a plan and no placement exclude each other
plan_or_none : {σ : List ℕ} {v : Layout} {t : Termination} {held : ℕ} {d : List ℕ} {r q : Verdict} → FindsPlan σ v t held d r → FindsNone σ held q → ⊥
plan_or_none {r = r} a b =
    b.lowest.none.none (mask_at r.plan.layout) (a.plans.chosen b.group b.lowest.below).least.valid

module _ (σ : List ℕ) (v : Layout) (t : Termination) (held : ℕ) (d e : List ℕ) (same : standing_of σ v t held d ≡ standing_of σ v t held e) where
  pub quorum_same : quorum_of σ v t held d ≡ quorum_of σ v t held e
  unfolding standing_of
  quorum_same = ap (λ (s : Standing). s.quorum) same

  pub holders_same : holders_of σ v t held d ≡ holders_of σ v t held e
  unfolding standing_of
  holders_same = ap (λ (s : Standing). s.holders) same

  pub targets_same : targets_of σ v t held d ≡ targets_of σ v t held e
  unfolding standing_of
  targets_same = ap (λ (s : Standing). s.targets) same

module _ {σ : List ℕ} {v : Layout} {t : Termination} {held : ℕ} {d e : List ℕ} (right : Settings σ) (inside : held < 2 ^ nodes σ)
    (same : standing_of σ v t held d ≡ standing_of σ v t held e) where
  -- there is one plan
  pub plans_one : {p q : Plan} → Plans σ v t held d p → Plans σ v t held e q → p ≡ q
  plans_one {p} {q} a b =
      plan_as layout (a.total ∙ (ap (all_moves σ v) layout ∙ sym b.total)) (a.holders ∙ (holders_same σ v t held d e same ∙ sym b.holders))
      (a.targets ∙ (targets_same σ v t held d e same ∙ sym b.targets))
    where
      layout : p.layout ≡ q.layout
      layout =
          layout_as (a.number ∙ sym b.number) (a.members ∙ sym b.members)
          (masks_one right inside p.layout.masks q.layout.masks a.sized b.sized a.chosen b.chosen
          (tidy_past σ p.layout a.tidy) (tidy_past σ q.layout b.tidy))

  -- there is one verdict
  pub restarts_one : {r q : Verdict} → Restarts σ v t held d r → Restarts σ v t held e q → r ≡ q
  restarts_one {r} {q} a b = by (quorum_of σ v t held d) refl
    where
      by : (k : Quorum) → quorum_of σ v t held d ≡ k → r ≡ q
      by (Short reason) h = a.waits reason h ∙ sym (b.waits reason (sym (quorum_same σ v t held d e same) ∙ h))
      by Met h =
          ⊎_elim
          (λ x.
          ⊎_elim
          (λ y.
          let u : r.quorum ≡ q.quorum = x.met ∙ sym y.met in
          let w : r.plan ≡ q.plan = plans_one x.plans y.plans in
          λ i. record { quorum = u i; plan = w i })
          (λ y. absurd (plan_or_none x y))
          (b.answers (sym (quorum_same σ v t held d e same) ∙ h)))
          (λ x.
          ⊎_elim (λ y. absurd (plan_or_none y x))
          (λ y. x.given ∙ (ap (λ (g : ℕ). waiting (NoPlacement g)) (lowest_one σ held x.group y.group x.lowest y.lowest) ∙ sym y.given))
          (b.answers (sym (quorum_same σ v t held d e same) ∙ h)))
          (a.answers h)

-- a plan has least moves in every subgroup
pub plans_least : {σ : List ℕ} {v : Layout} {t : Termination} {held : ℕ} {d : List ℕ} {p : Plan} → Plans σ v t held d p
    → (g : ℕ) → g < 4 → LeastMoves σ held (mask_at v) (mask_at p.layout) g
plans_least w g l = (w.chosen g l).least

-- over all subgroups too it is the first of those of least moves and most stays
pub plans_whole : {σ : List ℕ} {v : Layout} {t : Termination} {held : ℕ} {d : List ℕ} {p : Plan} → Settings σ → Plans σ v t held d p
    → ChosenPlan σ held (mask_at v) (mask_at p.layout)
plans_whole right w = chosen_whole right w.chosen
