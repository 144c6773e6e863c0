-- The loop's invariant: the sum so far is that of the weights below n. Assumes nothing.
use mathlib.Core.Path.{sym}
use native.Mathlib.Omega.{arith}
use Rattle.base_sum_laws.specs.Sums.{sum_zero, sum_done}
use Rattle.base_sum_laws.proofs.Sums.{sum_turn}
use Rattle.search_bounds.proofs.all_nodes.Goals as goal

pub loop-n-init : goal.loop-n-init
loop-n-init c = (omega arith, sym (sum_zero _))

pub loop-n-preserved : goal.loop-n-preserved
loop-n-preserved c = (omega arith, sum_turn _ _ _ _ c.loop-n.invariant.1 c.large-sum.ensures.0)

pub returns : goal.returns
returns c = (sum_done c.loop-n.auto.n-end c.loop-n-test.false _ _ c.loop-n.invariant.1, omega arith)
