-- From what is seen and a placement to the verdict, and that it is what the held reports allow.
use Rattle.std.specs.Prelude.{ℕ, ◌+◌, ◌≤◌, Bool, true, false, ◌||◌, List, ◌⊎◌, ◌≡◌, refl, eqb, ltb}
use Rattle.std.proofs.Math.Bool.{cond}
use Rattle.std.proofs.Common.{inl, inr, ⊎_elim, sym, ◌∙◌, arith, eq-eqb, lt-ltb}
use Rattle.std.proofs.Math.Path.{ap, subst⁻¹}
use Rattle.base_laws.specs.Bools.{either, lt_or_le, or_left, or_right}
use Rattle.base_laws.specs.Below.{all_of}
use Rattle.settings_values.specs.Definitions.{shards, Settings}
use Rattle.report_views.specs.declared.Layout.{Layout}
use Rattle.report_views.specs.declared.Termination.{Termination}
use Rattle.report_views.specs.declared.Plan.{Plan}
use Rattle.report_views.specs.declared.Reason.{Reason}
use Rattle.report_views.specs.declared.Reason.TheVariants.{NoPlacement}
use Rattle.report_views.specs.declared.Quorum.{Quorum}
use Rattle.report_views.specs.declared.Quorum.TheVariants.{Met, Short}
use Rattle.report_views.specs.Definitions.{mask_at, slots_ok, quorum_of, layout_tidy, all_moves, kept_sound}
use Rattle.report_views.specs.Meets.{quorum_given}
use Rattle.history_laws.proofs.Claims.{claims}
use Rattle.place_layout.specs.declared.Placed.{Placed}
use Rattle.place_layout.specs.Post.{Laid, Unplaced, Placement}
use Rattle.plan_quorum.specs.Quorum.{quorum_by}
use Rattle.plan_seen.specs.declared.Seen.{Seen}
use Rattle.plan_seen.specs.Sight.{seen_of, seen_holders, seen_targets, quorum_seen}
use Rattle.plan_restart.specs.declared.Verdict.{Verdict}
use Rattle.plan_restart.specs.Kept.{members-below}
use Rattle.plan_restart.specs.Definitions.{Plans}
use Rattle.plan_restart.specs.Restarts.{waiting, FindsPlan, FindsNone, Restarts}

-- the view after the kept one, with all held nodes and their placement
abbrev pub view_by : Layout → ℕ → Placed → Layout
view_by v held p = record { number = record { 0 = v.number.0 + 1 }; members = held; masks = p.masks }

-- the plan that a placement of all subgroups gives
unfoldable pub plan_by : Layout → ℕ → Seen → Placed → Plan
plan_by v held x p =
    record { layout = view_by v held p; total = p.total; holders = x.holders; targets = x.targets }

-- the plan if every subgroup is placed, else wait 5
unfoldable pub verdict_by : Layout → ℕ → Seen → Placed → Verdict
verdict_by v held x p =
    cond p.found (record { quorum = Met; plan = plan_by v held x p }) (waiting (NoPlacement p.group))

module _ (v : Layout) (held : ℕ) (x : Seen) (p : Placed) where
  pub verdict_plan : p.found ≡ true → verdict_by v held x p ≡ record { quorum = Met; plan = plan_by v held x p }
  unfolding verdict_by
  verdict_plan e = ap (λ (b : Bool). cond b (record { quorum = Met; plan = plan_by v held x p }) (waiting (NoPlacement p.group))) e

  pub verdict_none : p.found ≡ false → verdict_by v held x p ≡ waiting (NoPlacement p.group)
  unfolding verdict_by
  verdict_none e = ap (λ (b : Bool). cond b (record { quorum = Met; plan = plan_by v held x p }) (waiting (NoPlacement p.group))) e

-- the verdict of a placement of the held nodes
pub record PlacedVerdict (σ : List ℕ) (v : Layout) (held : ℕ) (x : Seen) (r : Verdict) : Type 0 where
  pub placed : Placed
  pub places : Placement σ held (mask_at v) placed
  pub given : r ≡ verdict_by v held x placed

-- what comes of what is seen: the first quorum condition that fails, and where none does the verdict of the placement
pub record RestartsBy (σ : List ℕ) (v : Layout) (held : ℕ) (x : Seen) (r : Verdict) : Type 0 where
  pub waits : (reason : Reason) → quorum_by σ v held x.holders ≡ Short reason → r ≡ waiting reason
  pub places : quorum_by σ v held x.holders ≡ Met → PlacedVerdict σ v held x r

-- q is the quorum of the holders
module _ (σ : List ℕ) (v : Layout) (held : ℕ) (x : Seen) (q : Quorum) (given : q ≡ quorum_by σ v held x.holders) where
  -- a condition fails
  pub restart_waits : (reason : Reason) (r : Verdict) → q ≡ Short reason → r ≡ waiting reason → RestartsBy σ v held x r
  restart_waits reason r f a =
      let found : quorum_by σ v held x.holders ≡ Short reason = sym given ∙ f in
      record {
        waits = λ other h. a ∙ ap (λ (k : Reason). waiting k) (cc);
        places = λ h. let z : ◌≡◌ {A = ℕ} 0 1 = cc in absurd (omega arith);
      }

  -- none fails
  pub restart_met : (p : Placed) (r : Verdict) → Placement σ held (mask_at v) p → q ≡ Met → r ≡ verdict_by v held x p → RestartsBy σ v held x r
  restart_met p r w f a =
      let found : quorum_by σ v held x.holders ≡ Met = sym given ∙ f in
      record {
        waits = λ reason h. let z : ◌≡◌ {A = ℕ} 0 1 = cc in absurd (omega arith);
        places = λ h. record { placed = p; places = w; given = a };
      }

-- nothing stands from S up
pub tidy_of : (σ : List ℕ) (w : Layout) → ((s : ℕ) → shards σ ≤ s → mask_at w s ≡ 0) → layout_tidy σ w ≡ true
unfolding layout_tidy
tidy_of σ w rest =
    all_of 16 (λ s. ltb s (shards σ) || eqb (mask_at w s) 0)
    (λ s l. ⊎_elim
    (λ i. or_left (eqb (mask_at w s) 0) (lt-ltb s (shards σ) i))
    (λ i. or_right (ltb s (shards σ)) (eq-eqb (mask_at w s) 0 (rest s i)))
    (lt_or_le s (shards σ)))

-- x is what the desk tells, with sound slots
module _ (σ : List ℕ) (v : Layout) (t : Termination) (held : ℕ) (d : List ℕ) (x : Seen) (e : x ≡ seen_of σ v t held d) (right : Settings σ)
    (slots : slots_ok σ v t held d ≡ true) where
  module _ (kept : kept_sound σ v t held ≡ true) (met : quorum_of σ v t held d ≡ Met) (p : Placed) where
    -- a placement of all subgroups gives a plan
    plans_by : Laid σ held (mask_at v) 4 p → Plans σ v t held d (plan_by v held x p)
    unfolding plan_by all_moves
    plans_by laid =
        let q = quorum_given σ v t held d met in
        record {
          number = refl;
          members = refl;
          sized = laid.sized;
          tidy = tidy_of σ (view_by v held p) laid.rest;
          holders = seen_holders σ v t held d x e slots;
          targets = seen_targets σ v t held d x e slots;
          chosen = laid.chosen;
          total = laid.total;
          claims = claims σ v t held d (members-below σ v t held right kept) slots q;
        }

    stuck_by : p.found ≡ false → Unplaced σ held p → FindsNone σ held (verdict_by v held x p)
    stuck_by f none =
        record {
          group = p.group;
          given = verdict_none v held x p f;
          lowest = none.lowest;
        }

    planned_by : p.found ≡ true → Laid σ held (mask_at v) 4 p → FindsPlan σ v t held d (verdict_by v held x p)
    planned_by f laid =
        subst⁻¹ (FindsPlan σ v t held d) (verdict_plan v held x p f) (record { met = refl; plans = plans_by laid })

    -- the verdict from a placement is a plan, or names the lowest subgroup without one
    answers_by : Placement σ held (mask_at v) p → FindsPlan σ v t held d (verdict_by v held x p) ⊎ FindsNone σ held (verdict_by v held x p)
    answers_by w = ⊎_elim (λ f. inl (planned_by f (w.laid f))) (λ f. inr (stuck_by f (w.unplaced f))) (either p.found)

  quorum_is : quorum_by σ v held x.holders ≡ quorum_of σ v t held d
  quorum_is = quorum_seen σ v t held d x e right slots

  -- so what comes of it is what the held reports allow
  pub restarts_told : kept_sound σ v t held ≡ true → (r : Verdict) → RestartsBy σ v held x r → Restarts σ v t held d r
  restarts_told kept r k =
      record {
        waits = λ reason h. k.waits reason (quorum_is ∙ h);
        answers = λ h.
            let w = k.places (quorum_is ∙ h) in
            subst⁻¹ (λ (y : Verdict). FindsPlan σ v t held d y ⊎ FindsNone σ held y) w.given (answers_by kept h w.placed w.places);
      }
