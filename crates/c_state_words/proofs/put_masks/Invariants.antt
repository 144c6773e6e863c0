use mathlib.Core.Path.{◌≡◌}
use lib.ListN.{get_or}
use Rattle.base_laws.specs.Loops.{turns}
use Rattle.c_state_words.specs.Stores.{store_word}
use Rattle.c_state_words.proofs.put_masks.Given as goal

abbrev pub invariant-loop-s : goal.invariant-loop-s
invariant-loop-s l = l.words ≡ turns l.s (store_word (λ i. get_or l.masks i 0) l.at) l.initial.words
