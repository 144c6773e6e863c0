-- `base_masks::with` meets its contract: the shifted 1 is 2 ^ n, since nothing is shifted out. Assumes nothing.
use native.Mathlib.Omega.{arith}
use Rattle.base_laws.specs.Masks.{shl-single}
use Rattle.base_masks.proofs.with.Goals as goal

pub returns : goal.returns
returns c = rw (shl-single 32 c.args.n (omega arith))
