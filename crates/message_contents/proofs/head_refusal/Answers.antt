-- `message_contents::head_refusal` meets its contract: each way out has the tests that led there.
use mathlib.Core.Path.{sym}
use borrow.Author.Tests.{lt-ltb, le-ltb, le-leb, lt-leb}
use Rattle.base_ids.specs.Definitions.{unless, or_refusal}
use Rattle.message_format.specs.Definitions.{row6, head_refusal}
use Rattle.message_contents.proofs.head_refusal.Goals as goal

pub returns-then-nodes-node : goal.returns-then-nodes-node
unfolding head_refusal row6 unless or_refusal
returns-then-nodes-node c = simp (sym c.nodes.ensures, le-leb _ _ c.if-nodes-node.true, le-ltb _ _ c.if-nodes-node.true)

pub returns-then-not-row7 : goal.returns-then-not-row7
unfolding head_refusal row6 unless or_refusal
returns-then-not-row7 c = simp (sym c.nodes.ensures, lt-leb _ _ c.if-nodes-node.false, lt-ltb _ _ c.if-nodes-node.false, sym c.row7.ensures, c.if-not-row7.true)

pub returns : goal.returns
unfolding head_refusal row6 unless or_refusal
returns c = simp (sym c.nodes.ensures, lt-leb _ _ c.if-nodes-node.false, lt-ltb _ _ c.if-nodes-node.false, sym c.row7.ensures, c.if-not-row7.false)
