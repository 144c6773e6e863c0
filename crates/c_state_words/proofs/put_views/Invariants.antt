use mathlib.Core.Path.{◌≡◌}
use Rattle.base_laws.specs.Loops.{turns}
use Rattle.c_state_words.specs.Stores.{view_number_at, store_word}
use Rattle.c_state_words.proofs.put_views.Given as goal

abbrev pub invariant-loop-n : goal.invariant-loop-n
invariant-loop-n l = l.words ≡ turns l.n (store_word (view_number_at l.views) 122) l.initial.words
