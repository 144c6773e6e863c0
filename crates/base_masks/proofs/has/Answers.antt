-- `base_masks::has` meets its contract: below 32 the code is the definition, and from 32 up a u32 has no bit. Assumes nothing.
use mathlib.Core.Path.{sym}
use native.Mathlib.Omega.{arith}
use Rattle.base_laws.specs.Masks.{has_past}
use Rattle.base_masks.proofs.has.Goals as goal

pub returns-else-n-lt32 : goal.returns-else-n-lt32
returns-else-n-lt32 c = sym (has_past c.args.m 32 c.args.n (omega arith) (omega arith))
