-- `report_rows::latest::known_or_none` meets its contract: one test after the other. Assumes nothing.
use mathlib.Core.Path.{sym}
use borrow.Author.Tests.{lt-ltb, le-ltb}
use Rattle.report_rows.proofs.latest.known_or_none.Goals as goal

pub returns-then-node-nodes : goal.returns-then-node-nodes
returns-then-node-nodes c = simp (sym c.nodes.ensures, lt-ltb _ _ c.if-node-nodes.true)

pub returns : goal.returns
returns c = simp (sym c.nodes.ensures, le-ltb _ _ c.if-node-nodes.false)
