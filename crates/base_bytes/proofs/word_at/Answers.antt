-- `base_bytes::word_at` meets its contract: the library's sum of the four bytes is the definition's. Assumes nothing.
use native.Mathlib.Omega.{arith}
use Rattle.base_bytes.specs.Definitions.{word_at}
use Rattle.base_bytes.proofs.word_at.Goals as goal

pub returns : goal.returns
unfolding word_at
returns c = omega (arith, c.from_le_bytes.ensures)
