-- Each branch by its test; the owner that was read stands for the node's. Assumes nothing.
use mathlib.Core.List.{[]}
use Prim.Native.Nat.{◌+◌}
use native.Mathlib.Omega.{arith}
use Rattle.search_laws.specs.Tables.{case_of, owners_of}
use Rattle.search_bounds.specs.Post.{weights_of, steady_there, steady_nowhere}
use Rattle.search_bounds.proofs.steady.Goals as goal

pub returns-then-o-lt16 : goal.returns-then-o-lt16
returns-then-o-lt16 c = let s = c in
    let o = c in
    steady_there (case_of s.args.sets.now [] [] s.args.costs.now s.args.idle) (weights_of s.args.wants.now s.args.rooms.now s.args.nodes.now s.args.pairs.now)
    (owners_of s.args.owner.now) s.args.n o.wide-o.result c.based.result (c.asks.result + c.large.result)
    o.wide-o.ensures.0 c.if-o-lt16.true c.based.ensures.0
    (omega (arith, c.asks.ensures.0, c.large.ensures.0))

pub returns-else-o-lt16 : goal.returns-else-o-lt16
returns-else-o-lt16 c = let s = c in
    steady_nowhere (case_of s.args.sets.now [] [] s.args.costs.now s.args.idle) (weights_of s.args.wants.now s.args.rooms.now s.args.nodes.now s.args.pairs.now)
    (owners_of s.args.owner.now) s.args.n c.wide-o.result c.rests.result c.wide-o.ensures.0 c.if-o-lt16.false c.rests.ensures.0
