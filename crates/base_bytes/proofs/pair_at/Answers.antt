-- `base_bytes::pair_at` meets its contract: the library's sum of the eight bytes is that of the two words.
-- Assumes nothing.
use native.Mathlib.Omega.{arith}
use Rattle.base_bytes.specs.Words.{pair_bytes}
use Rattle.base_bytes.proofs.pair_at.Goals as goal

pub returns : goal.returns
returns c = omega (arith, c.from_le_bytes.ensures, pair_bytes c.args.bytes.now c.args.i)
