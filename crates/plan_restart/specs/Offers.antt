-- What the code hands back of the held reports with improving rounds: an offer that has a plan, or a reason to wait.
use Rattle.std.specs.Prelude.{ℕ, ◌*◌, ◌<◌, List, ◌⊎◌, ◌≡◌}
use Rattle.std.proofs.Math.Path.{subst⁻¹}
use Rattle.std.specs.Int.Bits.{bit_and}
use Rattle.base_laws.specs.Definitions.{count}
use Rattle.place_groups.specs.Definitions.{LowestUnplaced}
use Rattle.report_views.specs.declared.Layout.{Layout}
use Rattle.report_views.specs.declared.Termination.{Termination}
use Rattle.report_views.specs.declared.Plan.{Plan}
use Rattle.report_views.specs.declared.Reason.{Reason}
use Rattle.report_views.specs.declared.Reason.TheVariants.{NoPlacement}
use Rattle.report_views.specs.declared.Quorum.TheVariants.{Met, Short}
use Rattle.report_views.specs.Definitions.{quorum_of}
use Rattle.report_views.specs.Meets.{quorum_given}
use Rattle.plan_restart.specs.Definitions.{Plans, NextView, PlansWithin}
use Rattle.plan_restart.specs.Restarts.{waiting}
use Rattle.plan_restart.specs.declared.rounds.Offered.{Offered}

-- a wait for a reason: no plan and no gap
abbrev pub waiting_within : Reason → Offered
waiting_within reason = record { verdict = waiting reason; gap = 0 }

-- there is a plan
pub record OffersPlan (σ : List ℕ) (v : Layout) (t : Termination) (held : ℕ) (d : List ℕ) (n : ℕ) (r : Offered) : Type 0 where
  pub met : r.verdict.quorum ≡ Met
  pub plans : PlansWithin σ v t held d n r.verdict.plan r.gap

-- the lowest subgroup without a valid placement is named
pub record OffersNone (σ : List ℕ) (held : ℕ) (r : Offered) : Type 0 where
  pub group : ℕ
  pub given : r ≡ waiting_within (NoPlacement group)
  pub lowest : LowestUnplaced σ held group

-- the first quorum condition that fails; where none does, a plan or the lowest subgroup without a valid placement
pub record Offers (σ : List ℕ) (v : Layout) (t : Termination) (held : ℕ) (d : List ℕ) (n : ℕ) (r : Offered) : Type 0 where
  pub waits : (reason : Reason) → quorum_of σ v t held d ≡ Short reason → r ≡ waiting_within reason
  pub answers : quorum_of σ v t held d ≡ Met → OffersPlan σ v t held d n r ⊎ OffersNone σ held r

-- ---- laws

-- decide's plan is one
pub plans_next : {σ : List ℕ} {v : Layout} {t : Termination} {held : ℕ} {d : List ℕ} {p : Plan} → Plans σ v t held d p → NextView σ v t held d p
plans_next w =
    record {
      number = w.number;
      members = w.members;
      sized = w.sized;
      tidy = w.tidy;
      holders = w.holders;
      targets = w.targets;
      valid = λ g l. (w.chosen g l).least.valid;
      total = w.total;
      claims = w.claims;
    }

-- such a view keeps the rule of views: more than half of the kept view's members are its members
pub next_majority : (σ : List ℕ) (v : Layout) (t : Termination) (held : ℕ) (d : List ℕ) (p : Plan) → quorum_of σ v t held d ≡ Met
    → NextView σ v t held d p → count v.members < 2 * count (bit_and p.layout.members v.members)
next_majority σ v t held d p met w =
    subst⁻¹ (λ (m : ℕ). count v.members < 2 * count (bit_and m v.members)) w.members (quorum_given σ v t held d met).most
