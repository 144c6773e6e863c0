-- `hint_memory::bit` meets its contract: nothing of the 1 is shifted out. Assumes nothing.
use Prim.Native.Nat.{◌%◌}
use native.Mathlib.Omega.{arith}
use Rattle.base_laws.specs.Masks.{shl-single}
use Rattle.hint_memory.proofs.bit.Goals as goal

pub returns : goal.returns
returns c = rw (shl-single 32 (c.args.n % 32) (omega arith))
