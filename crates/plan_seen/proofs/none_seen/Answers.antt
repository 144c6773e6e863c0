-- `plan_seen::none_seen` meets its contract: field by field. Assumes nothing.
use Rattle.plan_seen.specs.Sight.{none_seen}
use Rattle.plan_seen.proofs.none_seen.Goals as goal

pub returns : goal.returns
unfolding none_seen
returns c = simp c.no_positions.ensures
