-- `plan_order::contents_with` meets its contract: the four loops, one after another, make the order's body.
use native.Mathlib.Omega.{arith}
use Rattle.base_laws.specs.Below.{count_le}
use Rattle.plan_order.specs.Definitions.{carries}
use Rattle.plan_order.specs.Stores.{order_made}
use Rattle.plan_order.proofs.contents_with.Goals as goal

pub put_cuts-len-requires : goal.put_cuts-len-requires
put_cuts-len-requires c =
    let start = c in
    let holders = c.put_holders-next in
    let wide = c.wide-count in (
      omega (arith, wide.ensures, start.requires.shards_to),
      omega (arith, holders.ensures.value, wide.ensures, start.requires.shards_to, count_le wide.result (carries start.args.plan start.args.node.0)),
    )

pub returns : goal.returns
returns c d e =
    let start = c in
    let holders = c.put_holders-next in
    let wide = c.wide-count in
    let members = c.put_members in
    let targets = c.put_targets in
    order_made _ start.args.plan d start.args.node.0 start.requires.shards_to wide.result holders.result c.put_cuts-len.result
    _
    members.new.body
    targets.new.body
    holders.new.body
    c.put_cuts-len.new.body
    wide.ensures
    e
    members.ensures
    targets.ensures
    holders.ensures.value
    holders.ensures.body_after
    c.put_cuts-len.ensures.value
    c.put_cuts-len.ensures.body_after
