-- What a verdict leads to.
use Rattle.report_views.specs.declared.Plan.{Plan}
use Rattle.report_views.specs.declared.Quorum.{Quorum}
use Rattle.report_views.specs.declared.Quorum.TheVariants.{Met, Short}
use Rattle.state_planner.specs.declared.State.{State}
use Rattle.state_planner.specs.declared.Decision.{Decision}
use Rattle.state_planner.specs.declared.Decided.{Decided}
use Rattle.state_planner.specs.Definitions.{planned, still}

-- what a verdict leads to: a plan to ordered, and a wait changes nothing
unfoldable pub state_by : Quorum → State → Plan → State
state_by Met x p = planned x p
state_by (Short reason) x p = x

unfoldable pub decision_by : Quorum → Decision
decision_by Met = Decision.Planned
decision_by (Short reason) = Decision.Wait reason

abbrev pub decided_by : Quorum → State → Plan → Decided
decided_by q x p = still (state_by q x p) (decision_by q)
