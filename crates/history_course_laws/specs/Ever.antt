-- Over any number of restarts, runs between them and restarts that were given up: what was settled once is in the holder's log of every
-- later plan and not past its target.
use Rattle.std.specs.Prelude.{ℕ, ◌^◌, ◌<◌, ◌≤◌, true, List, ◌≡◌}
use Rattle.base_laws.specs.Definitions.{has}
use Rattle.settings_values.specs.Definitions.{shards}
use Rattle.report_views.specs.declared.Layout.{Layout}
use Rattle.report_views.specs.declared.Termination.{Termination}
use Rattle.report_views.specs.Definitions.{report_of, slots_ok}
use Rattle.report_views.specs.Meets.{QuorumMet}
use Rattle.history_laws.specs.Definitions.{History, KeepsRule, True, Supposed}
use Rattle.history_course_laws.specs.Course.{Serves, PlannedView, Covers, CarriedOut, GivenUp}
use Rattle.history_course_laws.specs.Listing.{listed_held}

-- a plan from true reports over the history H
pub record Restart (S : ℕ) (H : History) : Type 0 where
  pub σ : List ℕ
  pub same : shards σ ≡ S
  pub v : Layout
  pub t : Termination
  pub held : ℕ
  pub d : List ℕ
  pub w : Layout
  pub some : 0 < shards σ
  pub few : shards σ ≤ 16
  pub wide : v.members < 2 ^ 32
  pub slots : slots_ok σ v t held d ≡ true
  pub met : QuorumMet σ v t held d
  pub next : PlannedView σ v held w
  pub reports : (n : ℕ) → n < 32 → has held n ≡ true → True σ H (report_of d n)
  pub ended : Covers σ t H

-- from one history to a later one
pub data Course (S : ℕ) (H : History) : History → Type 0 where
  here : Course S H H
  running : (G K : History) → Course S H G → Serves S G K → Course S H K
  carrying : (G K : History) → Course S H G → (r : Restart S G) → CarriedOut r.σ r.v r.t r.held r.d r.w G K → Course S H K
  giving_up : (G K : History) → Course S H G → (r : Restart S G) → GivenUp r.σ r.v r.t r.held r.d r.w G K → Course S H K

pub supposing : {S : ℕ} {G : History} → KeepsRule G → (r : Restart S G) → Supposed r.σ r.v r.held r.d G
supposing {G = G} rule r =
    let here = listed_held r.σ r.v r.t r.held r.d G r.some r.slots r.met r.reports in
    record { rule = rule; true_reports = r.reports; place = here.0; listed = here.1 }
