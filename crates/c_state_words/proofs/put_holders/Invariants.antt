use mathlib.Core.Path.{◌≡◌}
use Rattle.base_laws.specs.Loops.{turns}
use Rattle.report_views.specs.Definitions.{node_at}
use Rattle.c_state_words.specs.Stores.{store_word}
use Rattle.c_state_words.proofs.put_holders.Given as goal

abbrev pub invariant-loop-s : goal.invariant-loop-s
invariant-loop-s l = l.words ≡ turns l.s (store_word (node_at l.holders) 74) l.initial.words
