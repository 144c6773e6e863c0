use Rattle.program_text.specs.Definitions.{Puts}
use Rattle.mondays_moves.specs.Walking.{Walks, moves_below}
use Rattle.mondays_moves.proofs.gather.Given as goal

abbrev pub invariant-loop-i : goal.invariant-loop-i
invariant-loop-i l = Walks l.bytes l.least l.i l.next × Puts l.initial.moves l.at (moves_below l.bytes l.i) l.moves l.place
