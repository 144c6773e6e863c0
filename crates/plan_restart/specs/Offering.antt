-- From what is seen and the placement that rounds reach to what is offered, and that it is what the held reports allow.
use Rattle.std.specs.Prelude.{ℕ, min, true, false, List, ◌⊎◌, ◌≡◌, refl}
use Rattle.std.proofs.Common.{inl, inr, ⊎_elim, sym, ap, ◌∙◌, arith}
use Rattle.std.proofs.Math.Path.{subst⁻¹}
use Rattle.base_laws.specs.Bools.{either}
use Rattle.settings_values.specs.Definitions.{Settings}
use Rattle.report_views.specs.declared.Layout.{Layout}
use Rattle.report_views.specs.declared.Termination.{Termination}
use Rattle.report_views.specs.declared.Reason.{Reason}
use Rattle.report_views.specs.declared.Quorum.{Quorum}
use Rattle.report_views.specs.declared.Quorum.TheVariants.{Met, Short}
use Rattle.report_views.specs.Definitions.{mask_at, slots_ok, quorum_of, all_moves, kept_sound}
use Rattle.report_views.specs.Meets.{quorum_given}
use Rattle.history_laws.proofs.Claims.{claims}
use Rattle.place_rounds.specs.declared.PlacedWithin.{PlacedWithin}
use Rattle.place_rounds.specs.Laws.{bettered_valid}
use Rattle.place_rounds.specs.Post.{LaidWithin, NoneWithin, PlacementWithin}
use Rattle.plan_quorum.specs.Quorum.{quorum_by}
use Rattle.plan_seen.specs.declared.Seen.{Seen}
use Rattle.plan_seen.specs.Sight.{seen_of, seen_holders, seen_targets, quorum_seen}
use Rattle.plan_restart.specs.declared.Verdict.{Verdict}
use Rattle.plan_restart.specs.Kept.{members-below}
use Rattle.plan_restart.specs.Planning.{view_by, plan_by, verdict_by, verdict_plan, verdict_none, tidy_of}
use Rattle.plan_restart.specs.declared.rounds.Offered.{Offered}
use Rattle.plan_restart.specs.Definitions.{PlansWithin}
use Rattle.plan_restart.specs.Restarts.{waiting}
use Rattle.plan_restart.specs.Offers.{waiting_within, OffersPlan, OffersNone, Offers}

-- what a placement offers
abbrev pub offered_by : Layout → ℕ → Seen → PlacedWithin → Offered
offered_by v held x p = record { verdict = verdict_by v held x p.placed; gap = p.gap }

-- the offer of a placement that n rounds reach
pub record PlacedByRounds (σ : List ℕ) (v : Layout) (held : ℕ) (x : Seen) (n : ℕ) (r : Offered) : Type 0 where
  pub placed : PlacedWithin
  pub places : PlacementWithin σ held (mask_at v) (min n 128) placed
  pub given : r ≡ offered_by v held x placed

-- what comes of what is seen: the first quorum condition that fails, and where none does the offer of the placement
pub record OffersBy (σ : List ℕ) (v : Layout) (held : ℕ) (x : Seen) (n : ℕ) (r : Offered) : Type 0 where
  pub waits : (reason : Reason) → quorum_by σ v held x.holders ≡ Short reason → r ≡ waiting_within reason
  pub places : quorum_by σ v held x.holders ≡ Met → PlacedByRounds σ v held x n r

-- q is the quorum of the holders
module _ (σ : List ℕ) (v : Layout) (held : ℕ) (x : Seen) (n : ℕ) (q : Quorum) (given : q ≡ quorum_by σ v held x.holders) where
  -- a condition fails
  pub offer_waits : (reason : Reason) (r : Offered) → q ≡ Short reason → r ≡ waiting_within reason → OffersBy σ v held x n r
  offer_waits reason r f a =
      let found : quorum_by σ v held x.holders ≡ Short reason = sym given ∙ f in
      record {
        waits = λ other h. a ∙ ap (λ (k : Reason). waiting_within k) (cc);
        places = λ h. let z : ◌≡◌ {A = ℕ} 0 1 = cc in absurd (omega arith);
      }

  -- none fails
  pub offer_met : (p : PlacedWithin) (r : Offered) → PlacementWithin σ held (mask_at v) (min n 128) p → q ≡ Met → r ≡ offered_by v held x p → OffersBy σ v held x n r
  offer_met p r w f a =
      let found : quorum_by σ v held x.holders ≡ Met = sym given ∙ f in
      record {
        waits = λ reason h. let z : ◌≡◌ {A = ℕ} 0 1 = cc in absurd (omega arith);
        places = λ h. record { placed = p; places = w; given = a };
      }

-- a subgroup has no placement: beside the wait there is no gap
pub offer_none : (σ : List ℕ) (v : Layout) (held : ℕ) (x : Seen) (n : ℕ) (p : PlacedWithin) → PlacementWithin σ held (mask_at v) (min n 128) p
    → (reason : Reason) → waiting reason ≡ verdict_by v held x p.placed → waiting_within reason ≡ offered_by v held x p
offer_none σ v held x n p w reason e =
    ⊎_elim
    (λ f.
    let h : Short reason ≡ Met = ap (λ (y : Verdict). y.quorum) (e ∙ verdict_plan v held x p.placed f) in
    let z : ◌≡◌ {A = ℕ} 0 1 = cc in
    absurd (omega arith))
    (λ f.
    let b : 0 ≡ p.gap = sym (w.unplaced f).gap in
    λ i. record { verdict = e i; gap = b i })
    (either p.placed.found)

-- x is what the desk tells, with sound slots
module _ (σ : List ℕ) (v : Layout) (t : Termination) (held : ℕ) (d : List ℕ) (x : Seen) (e : x ≡ seen_of σ v t held d) (right : Settings σ)
    (slots : slots_ok σ v t held d ≡ true) (n : ℕ) where
  module _ (kept : kept_sound σ v t held ≡ true) (met : quorum_of σ v t held d ≡ Met) (p : PlacedWithin) where
    -- a placement of all subgroups gives a plan
    plans_by : LaidWithin σ held (mask_at v) (min n 128) p → PlansWithin σ v t held d n (plan_by v held x p.placed) p.gap
    unfolding plan_by all_moves
    plans_by laid =
        let q = quorum_given σ v t held d met in
        record {
          next =
              record {
                number = refl;
                members = refl;
                sized = laid.sized;
                tidy = tidy_of σ (view_by v held p.placed) laid.rest;
                holders = seen_holders σ v t held d x e slots;
                targets = seen_targets σ v t held d x e slots;
                valid = bettered_valid laid.bettered;
                total = laid.total;
                claims = claims σ v t held d (members-below σ v t held right kept) slots q;
              };
          bettered = laid.bettered;
          gapped = laid.gap;
        }

    none_by : p.placed.found ≡ false → NoneWithin σ held p → OffersNone σ held (offered_by v held x p)
    none_by f none =
        let a = verdict_none v held x p.placed f in
        let b = none.gap in
        record {
          group = p.placed.group;
          given = λ i. record { verdict = a i; gap = b i };
          lowest = none.unplaced.lowest;
        }

    plan-by : p.placed.found ≡ true → LaidWithin σ held (mask_at v) (min n 128) p → OffersPlan σ v t held d n (offered_by v held x p)
    plan-by f laid =
        subst⁻¹ (λ (y : Verdict). OffersPlan σ v t held d n (record { verdict = y; gap = p.gap })) (verdict_plan v held x p.placed f)
        (record { met = refl; plans = plans_by laid })

    -- the offer is a plan, or names the lowest subgroup without one
    answers_by : PlacementWithin σ held (mask_at v) (min n 128) p → OffersPlan σ v t held d n (offered_by v held x p) ⊎ OffersNone σ held (offered_by v held x p)
    answers_by w = ⊎_elim (λ f. inl (plan-by f (w.laid f))) (λ f. inr (none_by f (w.unplaced f))) (either p.placed.found)

  quorum_is : quorum_by σ v held x.holders ≡ quorum_of σ v t held d
  quorum_is = quorum_seen σ v t held d x e right slots

  -- so what comes of it is what the held reports allow
  pub offers_told : kept_sound σ v t held ≡ true → (r : Offered) → OffersBy σ v held x n r → Offers σ v t held d n r
  offers_told kept r k =
      record {
        waits = λ reason h. k.waits reason (quorum_is ∙ h);
        answers = λ h.
            let w = k.places (quorum_is ∙ h) in
            subst⁻¹ (λ (y : Offered). OffersPlan σ v t held d n y ⊎ OffersNone σ held y) w.given (answers_by kept h w.placed w.places);
      }
