use Rattle.plan_order.specs.Definitions.{is_member}
use Rattle.plan_order.specs.Stores.{store_tabled, Storing}
use Rattle.plan_order.proofs.put_cuts.Given as goal

abbrev pub invariant-loop-s : goal.invariant-loop-s
invariant-loop-s l = Storing l.from (is_member l.layout l.node.0) (store_tabled l.from (is_member l.layout l.node.0) l.cuts) l.count l.initial.body l.body l.j l.s
