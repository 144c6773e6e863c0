-- `program_input::after_failure` meets its contract. Assumes nothing.
use Rattle.program_input.specs.Definitions.{after_failure}
use Rattle.program_input.proofs.after_failure.Goals as goal

pub returns-then-interrupted : goal.returns-then-interrupted
unfolding after_failure
returns-then-interrupted c = rw c.if-interrupted.true

pub returns : goal.returns
unfolding after_failure
returns c = rw c.if-interrupted.false
