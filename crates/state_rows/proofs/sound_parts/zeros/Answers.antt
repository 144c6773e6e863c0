-- `state_rows::sound_parts::zeros` meets its contract. The invariant: every entry below i is zero. Assumes nothing.
use Prim.Native.Nat.{ℕ}
use mathlib.Core.Bool.{Bool}
use mathlib.Core.List.{List}
use mathlib.Core.Path.{sym}
use native.Mathlib.Omega.{arith}
use lib.Dec.{eqb}
use lib.ListN.{get_or, length}
use borrow.Author.Tests.{ne_eqb, eq-eqb}
use Rattle.base_laws.specs.Below.{all_none}
use Rattle.base_laws.proofs.Below.{all_more, all_fails, all_fewer}
use borrow.Author.Rules.{rules}
use Rattle.state_rows.proofs.sound_parts.zeros.Goals as goal

abbrev zero-at : List ℕ → ℕ → Bool
zero-at l i = eqb (get_or l i 0) 0

pub loop-i-init : goal.loop-i-init
loop-i-init c = (search rules, all_none (zero-at c.args.l.now))

pub returns-then-l-i-ne0 : goal.returns-then-l-i-ne0
returns-then-l-i-ne0 c = let a = c.args in
    let l = c.loop-i in
    sym (all_fails (length a.l.now) (zero-at a.l.now) l.i (omega arith) (ne_eqb (get_or a.l.now l.i 0) 0 c.if-l-i-ne0.true))

pub loop-i-preserved : goal.loop-i-preserved
loop-i-preserved c = let a = c.args in
    let l = c.loop-i in
    (omega arith, all_more l.i (zero-at a.l.now) l.invariant.1 (eq-eqb (get_or a.l.now l.i 0) 0 c.if-l-i-ne0.false))

pub returns : goal.returns
returns c = let a = c.args in
    let l = c.loop-i in
    sym (all_fewer (length a.l.now) l.i (zero-at a.l.now) (omega arith) l.invariant.1)
