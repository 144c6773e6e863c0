-- `plan_masks::counted_with` meets its contract: by whether the node is the holder. Assumes nothing.
use borrow.Author.Tests.{eq-eqb, ne_eqb}
use Rattle.plan_masks.specs.Counting.{counted_with}
use Rattle.plan_masks.proofs.counted_with.Goals as goal

pub returns-then-holder-node : goal.returns-then-holder-node
unfolding counted_with
returns-then-holder-node c = simp (c.with.ensures, eq-eqb _ _ c.if-holder-node.true)

pub returns : goal.returns
unfolding counted_with
returns c = simp (ne_eqb _ _ c.if-holder-node.false)
