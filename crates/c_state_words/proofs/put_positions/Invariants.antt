use mathlib.Core.Path.{◌≡◌}
use lib.ListN.{get_or}
use Rattle.base_laws.specs.Loops.{turns}
use Rattle.report_views.specs.Definitions.{start}
use Rattle.c_state_words.specs.Stores.{store_position}
use Rattle.c_state_words.proofs.put_positions.Given as goal

abbrev pub invariant-loop-s : goal.invariant-loop-s
invariant-loop-s l = l.words ≡ turns l.s (store_position (λ i. get_or l.positions i start) l.at) l.initial.words
