-- What the code hands back of the held reports: a verdict that has a plan, or a reason to wait.
use Rattle.std.specs.Prelude.{ℕ, List, ◌⊎◌, ◌≡◌}
use Rattle.place_groups.specs.Definitions.{LowestUnplaced}
use Rattle.report_views.specs.declared.Layout.{Layout}
use Rattle.report_views.specs.declared.Termination.{Termination}
use Rattle.report_views.specs.declared.Reason.{Reason}
use Rattle.report_views.specs.declared.Reason.TheVariants.{NoPlacement}
use Rattle.report_views.specs.declared.Quorum.TheVariants.{Met, Short}
use Rattle.report_views.specs.Definitions.{no_plan, quorum_of}
use Rattle.plan_restart.specs.declared.Verdict.{Verdict}
use Rattle.plan_restart.specs.Definitions.{Plans}

-- a wait for a reason: no plan
abbrev pub waiting : Reason → Verdict
waiting reason = record { quorum = Short reason; plan = no_plan }

-- there is a plan
pub record FindsPlan (σ : List ℕ) (v : Layout) (t : Termination) (held : ℕ) (d : List ℕ) (r : Verdict) : Type 0 where
  pub met : r.quorum ≡ Met
  pub plans : Plans σ v t held d r.plan

-- the lowest subgroup without a valid placement is named
pub record FindsNone (σ : List ℕ) (held : ℕ) (r : Verdict) : Type 0 where
  pub group : ℕ
  pub given : r ≡ waiting (NoPlacement group)
  pub lowest : LowestUnplaced σ held group

-- the first quorum condition that fails; where none does, a plan or the lowest subgroup without a valid placement
pub record Restarts (σ : List ℕ) (v : Layout) (t : Termination) (held : ℕ) (d : List ℕ) (r : Verdict) : Type 0 where
  pub waits : (reason : Reason) → quorum_of σ v t held d ≡ Short reason → r ≡ waiting reason
  pub answers : quorum_of σ v t held d ≡ Met → FindsPlan σ v t held d r ⊎ FindsNone σ held r
