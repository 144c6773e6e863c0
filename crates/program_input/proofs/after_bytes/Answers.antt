-- `program_input::after_bytes` meets its contract. Assumes nothing.
use borrow.Author.Tests.{ne_eqb}
use Rattle.program_input.specs.Definitions.{after_bytes}
use Rattle.program_input.proofs.after_bytes.Goals as goal

pub returns-then-n-eq0 : goal.returns-then-n-eq0
unfolding after_bytes
returns-then-n-eq0 c = rw c.if-n-eq0.true

pub returns : goal.returns
unfolding after_bytes
returns c = rw (ne_eqb c.args.n 0 c.if-n-eq0.false)
