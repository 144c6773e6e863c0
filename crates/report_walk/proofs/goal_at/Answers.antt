-- `report_walk::goal_at` meets its contract.
use Rattle.report_walk.specs.Updates.{goal_at}
use Rattle.report_walk.proofs.goal_at.Goals as goal

pub returns : goal.returns
unfolding goal_at
returns c = c.end_key.ensures
