-- The promise of an offer leaves no freedom: offers on desks that give the same quorum, holders and targets are one.
use Rattle.std.specs.Prelude.{ℕ, ◌^◌, ◌<◌, List, ◌≡◌, refl}
use Rattle.std.proofs.Common.{⊎_elim, sym, ap, ◌∙◌}
use Rattle.settings_values.specs.Definitions.{nodes, Settings}
use Rattle.place_groups.specs.Chosen.{lowest_one}
use Rattle.place_rounds.specs.Definitions.{gap_of}
use Rattle.place_rounds.specs.Unique.{masks_within_one}
use Rattle.report_views.specs.declared.Layout.{Layout}
use Rattle.report_views.specs.declared.Termination.{Termination}
use Rattle.report_views.specs.declared.Plan.{Plan}
use Rattle.report_views.specs.declared.Quorum.{Quorum}
use Rattle.report_views.specs.declared.Quorum.TheVariants.{Met, Short}
use Rattle.report_views.specs.declared.Reason.TheVariants.{NoPlacement}
use Rattle.report_views.specs.Definitions.{mask_at, quorum_of, all_moves}
use Rattle.report_views.specs.Standings.{standing_of}
use Rattle.plan_restart.specs.Unique.{tidy_past, layout_as, plan_as, quorum_same, holders_same, targets_same}
use Rattle.plan_restart.specs.declared.rounds.Offered.{Offered}
use Rattle.plan_restart.specs.Definitions.{PlansWithin}
use Rattle.plan_restart.specs.Offers.{waiting_within, OffersPlan, OffersNone, Offers}

-- a plan and no placement exclude each other
plan_or_none : {σ : List ℕ} {v : Layout} {t : Termination} {held : ℕ} {d : List ℕ} {n : ℕ} {r q : Offered} → OffersPlan σ v t held d n r → OffersNone σ held q → ⊥
plan_or_none {r = r} a b = b.lowest.none.none (mask_at r.verdict.plan.layout) (a.plans.next.valid b.group b.lowest.below)

module _ {σ : List ℕ} {v : Layout} {t : Termination} {held : ℕ} {d e : List ℕ} {n : ℕ} (right : Settings σ) (inside : held < 2 ^ nodes σ)
    (same : standing_of σ v t held d ≡ standing_of σ v t held e) where
  -- there is one plan
  pub plans_within_one : {p q : Plan} {a b : ℕ} → PlansWithin σ v t held d n p a → PlansWithin σ v t held e n q b → p ≡ q
  plans_within_one {p} {q} a b =
      plan_as layout (a.next.total ∙ (ap (all_moves σ v) layout ∙ sym b.next.total))
      (a.next.holders ∙ (holders_same σ v t held d e same ∙ sym b.next.holders))
      (a.next.targets ∙ (targets_same σ v t held d e same ∙ sym b.next.targets))
    where
      layout : p.layout ≡ q.layout
      layout =
          layout_as (a.next.number ∙ sym b.next.number) (a.next.members ∙ sym b.next.members)
          (masks_within_one right inside p.layout.masks q.layout.masks a.next.sized b.next.sized a.bettered b.bettered
          (tidy_past σ p.layout a.next.tidy) (tidy_past σ q.layout b.next.tidy))

  pub gaps_one : {p q : Plan} {a b : ℕ} → PlansWithin σ v t held d n p a → PlansWithin σ v t held e n q b → a ≡ b
  gaps_one {p} {q} a b =
      a.gapped ∙ (ap (λ (x : Plan). gap_of σ held (mask_at v) (mask_at x.layout)) (plans_within_one a b) ∙ sym b.gapped)

  -- there is one offer
  pub offers_one : {r q : Offered} → Offers σ v t held d n r → Offers σ v t held e n q → r ≡ q
  offers_one {r} {q} a b = by (quorum_of σ v t held d) refl
    where
      by : (k : Quorum) → quorum_of σ v t held d ≡ k → r ≡ q
      by (Short reason) h = a.waits reason h ∙ sym (b.waits reason (sym (quorum_same σ v t held d e same) ∙ h))
      by Met h =
          ⊎_elim
          (λ x.
          ⊎_elim
          (λ y.
          let u : r.verdict.quorum ≡ q.verdict.quorum = x.met ∙ sym y.met in
          let w : r.verdict.plan ≡ q.verdict.plan = plans_within_one x.plans y.plans in
          let z : r.gap ≡ q.gap = gaps_one x.plans y.plans in
          λ i. record { verdict = record { quorum = u i; plan = w i }; gap = z i })
          (λ y. absurd (plan_or_none x y))
          (b.answers (sym (quorum_same σ v t held d e same) ∙ h)))
          (λ x.
          ⊎_elim (λ y. absurd (plan_or_none y x))
          (λ y. x.given ∙ (ap (λ (g : ℕ). waiting_within (NoPlacement g)) (lowest_one σ held x.group y.group x.lowest y.lowest) ∙ sym y.given))
          (b.answers (sym (quorum_same σ v t held d e same) ∙ h)))
          (a.answers h)
