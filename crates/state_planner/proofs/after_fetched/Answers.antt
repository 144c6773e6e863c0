-- `state_planner::after_fetched` meets its contract: the node is marked, and the phase follows from the marks. Assumes nothing.
use Prim.Native.Nat.{ℕ}
use mathlib.Core.Bool.{Bool, cond}
use mathlib.Core.Path.{refl, ap, ◌∙◌}
use lib.Dec.{eqb}
use borrow.Author.Tests.{lt-ltb}
use Rattle.base_laws.specs.Definitions.{with}
use Rattle.report_views.specs.declared.Phase.{Phase}
use Rattle.report_views.specs.declared.Phase.TheVariants.{Ordered, Preparing}
use Rattle.state_planner.specs.Definitions.{marked, after_fetched}
use Rattle.state_planner.specs.EventLaws.{marks_step}
use Rattle.state_planner.proofs.after_fetched.Goals as goal

pub returns : goal.returns
unfolding after_fetched marked
returns c =
    let a = c.args in
    λ h.
    marks_step (λ (p : Phase) (f : ℕ). marked a.x p f a.x.prepared) (λ (f : ℕ). cond (eqb f a.x.held) Preparing Ordered)
    refl c.phase_after-phase.ensures (c.mark-fetched.ensures ∙ ap (λ (b : Bool). cond b (with a.x.fetched a.node.0) a.x.fetched) (lt-ltb a.node.0 32 h))
