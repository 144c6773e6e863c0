use mathlib.Core.Path.{◌≡◌}
use Rattle.base_laws.specs.Tables.{filled}
use Rattle.message_format.specs.Definitions.{message_word}
use Rattle.message_writer.proofs.fill.Given as goal

abbrev pub invariant-loop-k : goal.invariant-loop-k
invariant-loop-k l = l.buffer ≡ filled l.k (message_word l.c) l.initial.buffer
