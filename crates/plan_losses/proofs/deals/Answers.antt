-- `plan_losses::deals` meets its contract: the placement that was judged. Assumes nothing.
use Rattle.plan_losses.specs.Losses.{placed_of}
use Rattle.plan_losses.proofs.deals.Goals as goal

pub returns : goal.returns
returns c = placed_of _ _ _ _ _ c.group_valid.ensures
