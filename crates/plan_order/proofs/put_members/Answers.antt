-- `plan_order::put_members` meets its contract: turn s stores the members of shard s.
use mathlib.Core.Path.{sym}
use Rattle.base_laws.specs.Loops.{turns_none, turned, turned_all}
use Rattle.plan_order.proofs.put_members.Goals as goal

pub loop-s-init : goal.loop-s-init
loop-s-init c = (c.requires, sym (turns_none _ _))

pub loop-s-preserved : goal.loop-s-preserved
loop-s-preserved c =
    let i = c.loop-s in (i.invariant.0, turned i.s _ _ i.body c.put.new.body i.invariant.1 c.put.ensures)

pub returns : goal.returns
returns c =
    let i = c.loop-s in
    turned_all i.s _ _ _ i.body i.auto.s-end c.loop-s-test.false i.invariant.1
