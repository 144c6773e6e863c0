-- `c_placement::row` meets its contract. The invariant: no entry is above those of its set's nodes below n. Assumes nothing.
use Prim.Native.Nat.{ℕ, ◌%◌}
use mathlib.Core.Path.{ap, subst}
use native.Mathlib.Nat.{le_antisymm}
use native.Mathlib.Omega.{arith}
use Rattle.c_placement.specs.Rows.{RowBelow, row_zeros, row_start, row_turn}
use Rattle.c_placement.proofs.row.Goals as goal

pub returns-then-need-eq0 : goal.returns-then-need-eq0
returns-then-need-eq0 c = row_zeros c.args.sets.now c.args.costs.now c.args.i

pub loop-n-init : goal.loop-n-init
loop-n-init c = row_start c.args.sets.now c.args.costs.now c.args.i

pub bounds-r-f : goal.bounds-r-f
bounds-r-f c = omega (arith, c.loop-n.invariant.long)

pub bounds-r-f-in-loop-n : goal.bounds-r-f-in-loop-n
bounds-r-f-in-loop-n c = omega (arith, c.loop-n.invariant.long)

pub loop-n-preserved : goal.loop-n-preserved
loop-n-preserved c =
    let w = c in
    let e = c.entry in row_turn (w.wide-f.result % 16) e.result c.lesser.result w.loop-n.invariant (ap (λ (x : ℕ). x % 16) w.wide-f.ensures.0) e.ensures
    c.lesser.ensures

pub returns : goal.returns
returns c =
    let a = c.args in
    let l = c.loop-n in
    subst (λ (n : ℕ). RowBelow a.sets.now a.costs.now a.i n l.r) (le_antisymm l.auto.n-end c.loop-n-test.false) l.invariant
