-- The lowest bit is one of the bits, and so below 32. Assumes nothing.
use native.Mathlib.Omega.{arith}
use lib.Count.{count_trailing_zeros, trailing_le}
use Rattle.base_laws.specs.Masks.{has_below}
use Rattle.search_bounds.specs.Lowest.{lowest_has}
use Rattle.search_bounds.proofs.lowest.Goals as goal

pub overflow_cast-result : goal.overflow_cast-result
overflow_cast-result c = record { fits = omega (arith, trailing_le 32 c.args.m) }

pub returns : goal.returns
returns c = (lowest_has 32 c.args.m (omega arith) c.requires, has_below c.args.m 32 (count_trailing_zeros 32 c.args.m) (omega arith) (lowest_has 32 c.args.m (omega arith) c.requires))
