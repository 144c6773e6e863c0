-- `plan_losses::stays_placed` meets its contract. The invariant: every subgroup below g has a valid placement, the one that was judged.
use mathlib.Core.Path.{◌≡◌, refl, subst}
use native.Mathlib.Omega.{arith}
use Rattle.base_laws.specs.Bools.{clash}
use Rattle.plan_losses.specs.Losses.{PlacedBelow, placed_more}
use Rattle.plan_losses.proofs.stays_placed.Goals as goal

pub loop-g-init : goal.loop-g-init
loop-g-init c = λ g l. absurd (omega arith)

pub returns-then-not-stays_in : goal.returns-then-not-stays_in
returns-then-not-stays_in c = λ e. clash e refl

pub loop-g-preserved : goal.loop-g-preserved
loop-g-preserved c = let a = c.args in
    let l = c.loop-g in
    let v = c.stays_in in
    let w = v.ensures (c.if-not-stays_in.false) in placed_more a.settings.now a.held l.g w.0 w.1 l.invariant

pub returns : goal.returns
returns c = let a = c.args in
    let l = c.loop-g in
    let z : l.g ≡ 4 = omega (arith, l.auto.g-end, c.loop-g-test.false) in
    λ e. subst (PlacedBelow a.settings.now a.held) z l.invariant
