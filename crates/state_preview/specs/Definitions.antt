-- Previews: when they are refused, and what they hand back. σ settings, x the state, d the desk, n a node.
use Rattle.std.specs.Prelude.{ℕ, true, false, List, ◌≡◌}
use Rattle.base_laws.specs.Definitions.{has}
use Rattle.base_ids.specs.declared.Refusal.{Refusal}
use Rattle.base_ids.specs.Definitions.{accepted}
use Rattle.plan_losses.specs.Definitions.{quorums_of, Lost}
use Rattle.report_views.specs.Definitions.{is_gathering}
use Rattle.state_planner.specs.declared.State.{State}
use Rattle.state_planner.specs.declared.Decision.{Decision}
use Rattle.state_planner.specs.declared.Decided.{Decided}
use Rattle.state_planner.specs.Definitions.{desk_ok, event_refusal, decide_refusal, after_drop, still, Decides}
use Rattle.state_preview.specs.declared.Warning.{Warning}

-- rows 1 to 4, 6 and 14 of a preview: a drop's, but while gathering alone
unfoldable pub preview_refusal : List ℕ → State → List ℕ → ℕ → Refusal
preview_refusal σ x d n = event_refusal (desk_ok d) σ x d (is_gathering x.phase) n (has x.held n)

-- what a preview hands back: a refusal beside the state, or what decide does of the state in which the node is dropped
pub record Previews (σ : List ℕ) (x : State) (d : List ℕ) (n : ℕ) (r : Decided) : Type 0 where
  pub refused : accepted (preview_refusal σ x d n) ≡ false → r ≡ still x (Decision.Refused (preview_refusal σ x d n))
  pub decides : accepted (preview_refusal σ x d n) ≡ true → Decides σ (after_drop x n) d r

-- what the preview of all held nodes hands back: beside a refusal none, else those without each of which no restart exists
pub record Warns (σ : List ℕ) (x : State) (d : List ℕ) (r : Warning) : Type 0 where
  pub answers : r.refusal ≡ decide_refusal σ x d
  pub blank : accepted (decide_refusal σ x d) ≡ false → r.lost ≡ 0
  pub told : accepted (decide_refusal σ x d) ≡ true → Lost σ x.held (quorums_of σ x.kept x.termination d) r.lost
