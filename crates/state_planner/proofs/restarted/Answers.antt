-- `state_planner::restarted` meets its contract: part by part. Assumes nothing.
use mathlib.Core.Path.{ap}
use Rattle.report_views.specs.declared.Plan.{Plan}
use Rattle.report_views.specs.declared.Phase.TheVariants.{Gathering}
use Rattle.state_planner.specs.Definitions.{of_parts, restarted}
use Rattle.state_planner.proofs.restarted.Goals as goal

pub returns : goal.returns
unfolding restarted
returns c =
    let x = c.args.x in
    ap (λ (p : Plan). of_parts Gathering x.kept x.termination 0 0 0 p x.latest) c.no_plan.ensures
