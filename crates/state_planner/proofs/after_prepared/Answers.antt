-- `state_planner::after_prepared` meets its contract: the node is marked, and the phase follows from the marks. Assumes nothing.
use Prim.Native.Nat.{ℕ}
use mathlib.Core.Bool.{Bool, cond}
use mathlib.Core.Path.{refl, ap, ◌∙◌}
use lib.Dec.{eqb}
use borrow.Author.Tests.{lt-ltb}
use Rattle.base_laws.specs.Definitions.{with}
use Rattle.report_views.specs.declared.Phase.{Phase}
use Rattle.report_views.specs.declared.Phase.TheVariants.{Preparing, Committed}
use Rattle.state_planner.specs.Definitions.{marked, after_prepared}
use Rattle.state_planner.specs.EventLaws.{marks_step}
use Rattle.state_planner.proofs.after_prepared.Goals as goal

pub returns : goal.returns
unfolding after_prepared marked
returns c =
    let a = c.args in
    λ h.
    marks_step (λ (p : Phase) (f : ℕ). marked a.x p a.x.fetched f) (λ (f : ℕ). cond (eqb f a.x.held) Committed Preparing)
    refl c.phase_after-phase.ensures (c.mark-prepared.ensures ∙ ap (λ (b : Bool). cond b (with a.x.prepared a.node.0) a.x.prepared) (lt-ltb a.node.0 32 h))
