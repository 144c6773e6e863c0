-- `plan_losses::low_sets` meets its contract. The invariant: the sets are low ones below f. Assumes nothing.
use Prim.Native.Nat.{ℕ}
use mathlib.Core.Path.{◌≡◌, subst}
use native.Mathlib.Omega.{arith}
use Rattle.plan_losses.specs.Needs.{LowBelow, low_none}
use Rattle.plan_losses.proofs.low_sets.Goals as goal

pub loop-f-init : goal.loop-f-init
loop-f-init c = low_none c.args.counts.now c.args.j

pub low_with-sets-requires : goal.low_with-sets-requires
low_with-sets-requires c = record { f_bound = c.loop-f-test.true; low_below = c.loop-f.invariant }

pub loop-f-preserved : goal.loop-f-preserved
loop-f-preserved c = c.low_with-sets.ensures

pub returns : goal.returns
returns c = let a = c.args in
    let l = c.loop-f in
    let z : l.f ≡ 16 = omega (arith, l.auto.f-end, c.loop-f-test.false) in subst (λ (k : ℕ). LowBelow a.counts.now a.j k l.sets) z l.invariant
