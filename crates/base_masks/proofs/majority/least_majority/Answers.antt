-- `base_masks::majority::least_majority` meets its contract: the formula is the least majority of every number of members.
use Rattle.base_masks.specs.Majority.{half_and_one}
use Rattle.base_masks.proofs.majority.least_majority.Goals as goal

pub returns : goal.returns
returns c = half_and_one c.args.members
