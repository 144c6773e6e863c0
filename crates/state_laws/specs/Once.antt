-- Two leaders hand back the same: there is one outcome that meets decide's promise, and calls that agree on the settings, the kept
-- view, its termination, the held mask and the contents of the held reports decide the same and lay out the same plan.
use Rattle.std.specs.Prelude.{ℕ, List}
use Rattle.std.proofs.Math.Path.{◌≡◌}
use Rattle.report_views.specs.Agreeing.{SameReports}
use Rattle.state_planner.specs.declared.State.{State}
use Rattle.state_planner.specs.declared.Decision.{Decision}
use Rattle.state_planner.specs.declared.Decided.{Decided}

-- two calls agree on what decide reads: all but the marks, the old plan, the slots of nodes that are not held and what stands off the chains
pub record SameAsked (x y : State) (d e : List ℕ) : Type 0 where
  pub kept : x.kept ≡ y.kept
  pub termination : x.termination ≡ y.termination
  pub held : x.held ≡ y.held
  pub reports : SameReports x.held d e

-- two outcomes say the same, and where they plan the plan is the same
pub record SameSaid (r q : Decided) : Type 0 where
  pub decision : r.decision ≡ q.decision
  pub plan : r.decision ≡ Decision.Planned → r.state.plan ≡ q.state.plan
