-- `state_rows::check_node` meets its contract: row by row. Assumes nothing.
use mathlib.Core.Path.{sym}
use borrow.Author.Tests.{lt-ltb, le-ltb}
use Rattle.base_ids.specs.Definitions.{unless, or_refusal}
use Rattle.state_rows.specs.Definitions.{node_refusal}
use Rattle.state_rows.proofs.check_node.Goals as goal

pub returns-then-nodes-node : goal.returns-then-nodes-node
unfolding node_refusal unless or_refusal
returns-then-nodes-node c = simp (sym c.nodes.ensures, le-ltb _ _ c.if-nodes-node.true)

pub returns-then-not-ok : goal.returns-then-not-ok
unfolding node_refusal unless or_refusal
returns-then-not-ok c = simp (sym c.nodes.ensures, lt-ltb _ _ c.if-nodes-node.false, c.if-not-ok.true)

pub returns : goal.returns
unfolding node_refusal unless or_refusal
returns c = simp (sym c.nodes.ensures, lt-ltb _ _ c.if-nodes-node.false, c.if-not-ok.false)
