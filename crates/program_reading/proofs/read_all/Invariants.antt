use mathlib.Core.Path.{◌≡◌}
use lib.ListN.{length}
use Rattle.base_lent.specs.Definitions.{words_in}
use Rattle.program_input.specs.Inputs.{reads_left}
use Rattle.program_reading.specs.Definitions.{FedSoFar}
use Rattle.program_reading.proofs.read_all.Given as goal

abbrev pub invariant-loop-buffer : goal.invariant-loop-buffer
invariant-loop-buffer l = FedSoFar (words_in l.initial.desk) l.initial.bytes l.intake (words_in l.desk) l.bytes × (length l.desk ≡ length l.initial.desk)

abbrev pub decreases-loop-buffer : goal.decreases-loop-buffer
decreases-loop-buffer l = reads_left l.intake.input
