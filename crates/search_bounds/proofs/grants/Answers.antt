-- The base of 32 nodes is 524288. Assumes nothing.
use native.Mathlib.Omega.{arith}
use Rattle.base_sum_laws.specs.Sums.{sum_const}
use Rattle.search_laws.specs.Duality.{gain}
use Rattle.search_bounds.proofs.grants.Goals as goal

pub returns : goal.returns
unfolding gain
returns c = (omega (arith, c.weighted.ensures.0, sum_const 32 16384), omega arith)
