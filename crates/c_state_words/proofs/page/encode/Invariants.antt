use mathlib.Core.Path.{◌≡◌}
use lib.ListN.{replicate}
use Rattle.base_laws.specs.Tables.{filled}
use Rattle.c_state_words.specs.Definitions.{page_word}
use Rattle.c_state_words.proofs.page.encode.Given as goal

abbrev pub invariant-loop-k : goal.invariant-loop-k
invariant-loop-k l = l.words ≡ filled l.k (page_word l.p) (replicate 512 0)
