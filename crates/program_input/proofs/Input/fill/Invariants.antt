use mathlib.Core.Path.{◌≡◌}
use lib.ListN.{length}
use Rattle.program_input.specs.Inputs.{reads_left}
use Rattle.program_input.specs.Filling.{Filling}
use Rattle.program_input.proofs.Input.fill.Given as goal

abbrev pub invariant-loop-stream : goal.invariant-loop-stream
invariant-loop-stream l = Filling l.initial.input l.block l.input l.len × (length l.block ≡ length l.initial.block)

abbrev pub decreases-loop-stream : goal.decreases-loop-stream
decreases-loop-stream l = reads_left l.input
