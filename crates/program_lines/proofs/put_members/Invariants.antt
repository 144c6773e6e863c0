use Rattle.program_text.specs.Definitions.{Puts}
use Rattle.program_lines.specs.Definitions.{members_below}
use Rattle.program_lines.proofs.put_members.Given as goal

abbrev pub invariant-loop-n : goal.invariant-loop-n
invariant-loop-n l = Puts l.initial.out l.at (members_below l.n l.mask) l.out l.next
