use mathlib.Core.Path.{◌≡◌}
use Rattle.base_laws.specs.Tables.{filled}
use Rattle.message_flat.specs.Parted.{word_of}
use Rattle.message_flat.proofs.to_flat.write.Given as goal

abbrev pub invariant-loop-k : goal.invariant-loop-k
invariant-loop-k l = l.words ≡ filled l.k (word_of l.c.node l.c.view l.c.members l.c.body l.parts) l.initial.words
