-- `base_masks::without` meets its contract: below 32 the code is `m & !b` for the bit b, and from 32 up a u32 has no bit to clear. Assumes nothing.
use mathlib.Core.Path.{sym}
use native.Mathlib.Omega.{arith}
use Prim.Native.Nat.{◌^◌}
use Rattle.base_laws.specs.Masks.{shl-single, single_lt, and_not, has_past}
use Rattle.base_laws.proofs.Masks.{without_same}
use Rattle.base_masks.proofs.without.Goals as goal

pub returns-then-n-lt32 : goal.returns-then-n-lt32
returns-then-n-lt32 c =
    let n = c.args.n in
    rw (shl-single 32 n (omega arith))
    (and_not 32 c.args.m (2 ^ n) (omega arith) (single_lt 32 n (omega arith)))

pub returns-else-n-lt32 : goal.returns-else-n-lt32
returns-else-n-lt32 c =
    let m = c.args.m in
    let n = c.args.n in sym (without_same m n (has_past m 32 n (omega arith) (omega arith)))
