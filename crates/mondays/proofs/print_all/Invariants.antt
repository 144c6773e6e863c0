use Rattle.program_input.specs.Inputs.{reads_left}
use Rattle.mondays.specs.Program.{StandsBefore}
use Rattle.mondays.proofs.print_all.Given as goal

abbrev pub invariant-loop-stream : goal.invariant-loop-stream
invariant-loop-stream g l = StandsBefore l.tallied

abbrev pub decreases-loop-stream : goal.decreases-loop-stream
decreases-loop-stream g l = reads_left l.tallied.input
