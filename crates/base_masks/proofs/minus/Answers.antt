-- `base_masks::minus` meets its contract: `a & !b` in 32 bits is what is left of a without b. Assumes nothing.
use native.Mathlib.Omega.{arith}
use Rattle.base_laws.specs.Masks.{and_not}
use Rattle.base_masks.proofs.minus.Goals as goal

pub returns : goal.returns
returns c = and_not 32 c.args.a c.args.b (omega arith) (omega arith)
