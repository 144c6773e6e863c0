-- The loop's invariant: the mask has the owners of the nodes below n. Assumes nothing.
use Rattle.search_judge.specs.Owners.{owners_none, owners_turn, owners_done}
use Rattle.search_judge.proofs.owners.Goals as goal

pub loop-n-init : goal.loop-n-init
loop-n-init c = owners_none _

pub loop-n-preserved : goal.loop-n-preserved
loop-n-preserved c = owners_turn _ _ c.loop-n.invariant c.wide.ensures.0 c.with-m.ensures

pub returns : goal.returns
returns c = owners_done c.loop-n.auto.n-end c.loop-n-test.false c.loop-n.invariant
