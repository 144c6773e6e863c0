-- `hint_memory::without_lowest` meets its contract: what m and m - 1 share is at most m - 1. Assumes nothing.
use mathlib.Core.Path.{refl}
use Prim.Native.Nat.{◌-◌}
use native.Mathlib.Omega.{arith}
use lib.Bits.{and_le_r}
use Rattle.hint_memory.proofs.without_lowest.Goals as goal

pub returns-else-m-eq0 : goal.returns-else-m-eq0
returns-else-m-eq0 c = (refl, omega (arith, and_le_r c.args.m (c.args.m - 1)))
