-- The three sums are those of the toll. Assumes nothing.
use native.Mathlib.Omega.{arith}
use Rattle.search_laws.specs.Duality.{toll}
use Rattle.search_bounds.proofs.takes.Goals as goal

pub returns : goal.returns
unfolding toll
returns c = (omega (arith, c.all_pairs.ensures.0, c.counted.ensures, c.weighted.ensures.0, c.all_nodes.ensures.0), omega arith)
