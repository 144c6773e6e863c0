-- The loop's invariant: the mask has the sets of shard i's nodes below n. Assumes nothing.
use Rattle.search_judge.specs.Met.{met_none, met_turn, met_done}
use Rattle.search_judge.proofs.met.Goals as goal

pub loop-n-init : goal.loop-n-init
loop-n-init c = met_none _ _ _

pub joined-m-requires : goal.joined-m-requires
joined-m-requires c = c.loop-n.invariant.small

pub loop-n-preserved : goal.loop-n-preserved
loop-n-preserved c = met_turn _ _ _ _ _ _ _ _ c.loop-n.invariant c.wide.ensures.0 c.wide-in-loop-n.ensures.0 c.joined-m.ensures

pub returns : goal.returns
returns c = met_done _ _ _ _ _ c.loop-n.auto.n-end c.loop-n-test.false c.loop-n.invariant
