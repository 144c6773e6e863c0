-- `plan_order::put_cuts` meets its contract: turn s stores the cut of shard s where the node carries it.
use Prim.Native.Nat.{◌+◌}
use native.Mathlib.Omega.{arith}
use mathlib.Core.Path.{sym, ◌∙◌}
use Rattle.plan_order.specs.Definitions.{is_member}
use Rattle.plan_order.specs.Stores.{storing_start, storing_room, storing_end, storing_hit, storing_miss, record_hit, record_miss}
use Rattle.plan_order.proofs.put_cuts.Goals as goal
use Rattle.plan_order.proofs.put_cuts.Goals.{then-has, else-has}

pub loop-s-init : goal.loop-s-init
loop-s-init c = storing_start _ _ _ _ _ c.requires.0

pub bounds-layout-s : goal.bounds-layout-s
bounds-layout-s c = omega (arith, c.loop-s-test.true, c.loop-s.invariant.many)

pub bounds-cuts-s : goal.bounds-cuts-s
bounds-cuts-s c = omega (arith, c.loop-s-test.true, c.loop-s.invariant.many)

pub bounds-cuts-s-then-has : goal.bounds-cuts-s-then-has
bounds-cuts-s-then-has c = omega (arith, c.loop-s-test.true, c.loop-s.invariant.many)

pub put-requires : goal.put-requires
put-requires c = omega (arith, storing_room c.loop-s.invariant c.loop-s-test.true, c.requires.1)

pub overflow_add-j : goal.overflow_add-j
overflow_add-j c = omega (arith, storing_room c.loop-s.invariant c.loop-s-test.true, c.requires.1)

pub loop-s-preserved : goal.loop-s-preserved
loop-s-preserved c =
    let i = c.loop-s in
    let a = c.args in
    let l = c.loop-s-test.true in
    let f = is_member a.layout a.node.0 in
    elim c.if-has.branch [
      | then-has w ↦
          let carried = sym c.has.ensures ∙ w.if-has.true in
          storing_hit i.invariant c.if-has.body c.if-has.j l carried
          (record_hit a.from f i.s _ _ _ i.body c.if-has.body carried i.j i.invariant.next (w.body-is ∙ w.put.ensures))
          w.j-is
      | else-has w ↦
          let skipped = sym c.has.ensures ∙ w.if-has.false in
          storing_miss i.invariant c.if-has.body c.if-has.j l skipped
          (record_miss a.from f i.s (1280 + i.s) _ _ i.body c.if-has.body skipped w.body-is)
          w.j-is
    ]

pub returns : goal.returns
returns c = (let all = storing_end c.loop-s.invariant c.loop-s-test.false in (record { value = all.0; body_after = all.1 }))
