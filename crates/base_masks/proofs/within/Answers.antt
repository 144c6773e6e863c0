-- `base_masks::within` meets its contract: below 32 the shifted 1 is 2 ^ n, and from 32 up 2 ^ n is above every u32. Assumes nothing.
use mathlib.Core.Path.{sym}
use native.Mathlib.Omega.{arith}
use native.Mathlib.Nat.{lt_of_lt_of_le}
use lib.Pow.{pow_mono}
use Rattle.base_laws.specs.Masks.{shl-single, lt_within}
use Rattle.base_masks.proofs.within.Goals as goal

pub returns-then-n-lt32 : goal.returns-then-n-lt32
returns-then-n-lt32 c = rw (shl-single 32 c.args.n (omega arith))

pub returns-else-n-lt32 : goal.returns-else-n-lt32
returns-else-n-lt32 c = sym (lt_within c.args.n c.args.m (lt_of_lt_of_le (omega arith) (pow_mono {i = 32} (omega arith))))
