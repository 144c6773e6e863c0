-- Each branch by its test. Assumes nothing.
use mathlib.Core.List.{[]}
use lib.ListN.{get_or}
use Rattle.search_laws.specs.Tables.{case_of, owners_of}
use Rattle.search_laws.specs.Case.{spread, meets}
use Rattle.search_laws.specs.Tests.{met_yes, met_no}
use Rattle.search_judge.specs.Owners.{no_nodes, met_bare}
use Rattle.search_judge.proofs.filled_at.Goals as goal

pub returns-then-bare : goal.returns-then-bare
returns-then-bare c =
    let s = c in
    let h = c.bare.ensures c.if-bare.true in
    met_bare (get_or s.args.caps.now s.args.i 0)
    (spread (case_of s.args.sets.now s.args.needs.now s.args.caps.now [] 0) (owners_of s.args.owner.now) s.args.i)
    (no_nodes s.requires.i_bound s.requires.owners_held h.1) h.0

pub returns-then-size-wide : goal.returns-then-size-wide
unfolding spread meets
returns-then-size-wide c =
    met_yes c.size.ensures c.wide.ensures.0 c.wide-then-size-wide.ensures.0
    c.spread.ensures c.if-size-wide.true

pub returns-else-size-wide : goal.returns-else-size-wide
returns-else-size-wide c =
    let s = c in
    met_no (get_or s.args.needs.now s.args.i 0)
    (spread (case_of s.args.sets.now s.args.needs.now s.args.caps.now [] 0) (owners_of s.args.owner.now) s.args.i)
    c.size.ensures c.wide.ensures.0 c.if-size-wide.false
