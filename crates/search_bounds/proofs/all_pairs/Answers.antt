-- The loop's invariant: the sum so far is that of the shards below i. Assumes nothing.
use mathlib.Core.Path.{sym}
use native.Mathlib.Omega.{arith}
use Rattle.base_sum_laws.specs.Sums.{sum_zero, sum_done}
use Rattle.base_sum_laws.proofs.Sums.{sum_turn}
use Rattle.search_bounds.proofs.all_pairs.Goals as goal

pub loop-i-init : goal.loop-i-init
loop-i-init c = (omega arith, sym (sum_zero _))

pub loop-i-preserved : goal.loop-i-preserved
loop-i-preserved c = (omega arith, sum_turn _ _ _ _ c.loop-i.invariant.1 c.row-sum.ensures.0)

pub returns : goal.returns
returns c = (sum_done c.loop-i.auto.i-end c.loop-i-test.false _ _ c.loop-i.invariant.1, omega arith)
