-- Each branch by its test. Assumes nothing.
use Prim.Native.Nat.{ℕ}
use mathlib.Core.Path.{sym, ap₂}
use native.Mathlib.Omega.{arith}
use lib.Dec.{ltb}
use lib.ListN.{get_or}
use borrow.Author.Tests.{le-ltb}
use Rattle.search_laws.specs.Floor.{entries_below, short_at}
use Rattle.search_judge.proofs.floor.short_at.Goals as goal

pub returns-then-needs-i-eq0 : goal.returns-then-needs-i-eq0
unfolding short_at
returns-then-needs-i-eq0 c =
    let s = c in
    sym (le-ltb (entries_below s.args.sheet.now s.args.i 2) (get_or s.args.needs.now s.args.i 0) (omega (arith, c.if-needs-i-eq0.true)))

pub returns : goal.returns
unfolding short_at
returns c = ap₂ (λ (a b : ℕ). ltb a b) c.entries.ensures c.wide.ensures.0
