-- A shard meets no more sets than it has nodes, and has no more nodes than were looked at. Assumes nothing.
use Prim.Native.Nat.{◌/◌}
use mathlib.Core.Bool.{false≢true}
use mathlib.Core.List.{[]}
use native.Mathlib.Omega.{arith}
use borrow.Author.Tests.{ltb-true}
use Rattle.search_laws.specs.Tables.{case_of, owners_of}
use Rattle.search_laws.specs.Ranks.{spread_size}
use Rattle.search_hinted.specs.Stage.{few_nodes}
use Rattle.search_hinted.proofs.lacks.Goals as goal

pub returns-then-need-eq0 : goal.returns-then-need-eq0
returns-then-need-eq0 c = λ e. absurd (false≢true e)

pub returns-then-t-need : goal.returns-then-t-need
returns-then-t-need c = λ e.
    let s = c in
    omega (
      arith,
      c.if-t-need.true,
      c.wide-need.ensures.0,
      few_nodes s.args.t s.requires.t_bound s.requires.begun,
      spread_size (case_of s.args.sets.now [] [] [] 0) s.requires.small.below (owners_of s.args.owner.now) (s.args.t / 32),
    )

pub returns-then-size-need : goal.returns-then-size-need
returns-then-size-need c = λ e.
    let s = c in
    omega (
      arith,
      c.if-size-need.true,
      c.size.ensures,
      c.wide-need.ensures.0,
      spread_size (case_of s.args.sets.now [] [] [] 0) s.requires.small.below (owners_of s.args.owner.now) (s.args.t / 32),
    )

pub returns : goal.returns
returns c = λ e.
    let w = c in
    omega (arith, ltb-true c.spread.result w.wide-need.result e, c.spread.ensures, w.wide-need.ensures.0)
