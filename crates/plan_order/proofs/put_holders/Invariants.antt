use Rattle.plan_order.specs.Definitions.{carries}
use Rattle.plan_order.specs.Stores.{store_holder, Storing}
use Rattle.plan_order.proofs.put_holders.Given as goal

abbrev pub invariant-loop-s : goal.invariant-loop-s
invariant-loop-s l = Storing l.from (carries l.plan l.node.0) (store_holder l.from l.plan l.node.0) l.count l.initial.body l.body l.j l.s
