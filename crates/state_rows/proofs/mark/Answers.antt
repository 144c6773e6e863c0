-- `state_rows::mark` meets its contract: by whether there can be such a node. Assumes nothing.
use borrow.Author.Tests.{lt-ltb, le-ltb}
use Rattle.state_rows.proofs.mark.Goals as goal

pub returns-then-node-lt32 : goal.returns-then-node-lt32
returns-then-node-lt32 c = simp (c.with.ensures, lt-ltb _ 32 c.if-node-lt32.true)

pub returns-else-node-lt32 : goal.returns-else-node-lt32
returns-else-node-lt32 c = simp (le-ltb _ 32 c.if-node-lt32.false)
