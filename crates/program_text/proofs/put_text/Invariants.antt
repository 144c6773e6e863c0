use lib.ListN.{take}
use Rattle.program_text.specs.Definitions.{Puts}
use Rattle.program_text.proofs.put_text.Given as goal

abbrev pub invariant-loop-i : goal.invariant-loop-i
invariant-loop-i l = Puts l.initial.out l.at (take l.i l.text) l.out l.next
