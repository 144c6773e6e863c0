-- The loop's invariant: the count so far is that of the nodes below n. Assumes nothing.
use mathlib.Core.Path.{sym}
use native.Mathlib.Omega.{arith}
use Rattle.base_laws.specs.Below.{count_zero}
use Rattle.base_laws.specs.Loops.{count_turn, count_done}
use Rattle.search_judge.proofs.owned.Goals as goal

pub loop-n-init : goal.loop-n-init
loop-n-init c = (omega arith, sym (count_zero _))

pub loop-n-preserved : goal.loop-n-preserved
loop-n-preserved c = (
  omega arith,
  count_turn _ _ _ _ c.loop-n.invariant.1
      c.equal-count.ensures.0,
)

pub returns : goal.returns
returns c = count_done c.loop-n.auto.n-end c.loop-n-test.false _ _ c.loop-n.invariant.1
