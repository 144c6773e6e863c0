use mathlib.Core.Path.{◌≡◌}
use Rattle.base_laws.specs.Tables.{filled}
use Rattle.base_bytes.specs.Definitions.{word_at}
use Rattle.base_bytes.proofs.decode.Given as goal

abbrev pub invariant-loop-i : goal.invariant-loop-i
invariant-loop-i l = l.words ≡ filled l.i (word_at l.bytes) l.initial.words
