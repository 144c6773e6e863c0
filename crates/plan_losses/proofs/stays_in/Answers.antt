-- `plan_losses::stays_in` meets its contract: the placement that was judged, or the one that is dealt. Assumes nothing.
use Rattle.plan_losses.specs.Losses.{placed_of}
use Rattle.plan_losses.proofs.stays_in.Goals as goal

pub returns-then-group_valid : goal.returns-then-group_valid
returns-then-group_valid c = λ e. placed_of _ _ _ _ _ c.group_valid.ensures c.if-group_valid.true

pub returns : goal.returns
returns c = c.deals.ensures
