-- `plan_losses::served` meets its contract. The invariant: the total is the sum over the sets below f. Assumes nothing.
use mathlib.Core.Path.{sym}
use native.Mathlib.Omega.{arith}
use Rattle.base_sum_laws.specs.Sums.{sum_zero, sum_done}
use Rattle.base_sum_laws.proofs.Sums.{sum_turn}
use Rattle.plan_losses.specs.Needs.{served_by}
use Rattle.plan_losses.proofs.served.Goals as goal

pub loop-f-init : goal.loop-f-init
loop-f-init c = (omega arith, sym (sum_zero _))

pub overflow_add-total : goal.overflow_add-total
overflow_add-total c = let l = c.loop-f in
    omega (arith, c.lesser-total.ensures, c.requires, l.auto.f-end, l.invariant.0)

pub loop-f-preserved : goal.loop-f-preserved
loop-f-preserved c = let l = c.loop-f in (omega (arith, c.lesser-total.ensures, c.requires, l.invariant.0), sum_turn _ _ _ _ l.invariant.1 c.lesser-total.ensures)

pub returns : goal.returns
unfolding served_by
returns c = sum_done c.loop-f.auto.f-end c.loop-f-test.false _ _ c.loop-f.invariant.1
