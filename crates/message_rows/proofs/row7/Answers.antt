-- `message_rows::row7` meets its contract: each way out has the tests that led there.
use mathlib.Core.Path.{sym}
use Rattle.message_format.specs.Definitions.{row7}
use Rattle.message_rows.proofs.row7.Goals as goal

pub returns-then-not-view_ok : goal.returns-then-not-view_ok
unfolding row7
returns-then-not-view_ok c = simp (sym c.view_ok.ensures, c.if-not-view_ok.true)

pub returns-then-not-within : goal.returns-then-not-within
unfolding row7
returns-then-not-within c = simp (sym c.view_ok.ensures, c.if-not-view_ok.false, sym c.nodes.ensures, sym c.within.ensures, c.if-not-within.true)

pub returns : goal.returns
unfolding row7
returns c = simp (sym c.view_ok.ensures, c.if-not-view_ok.false, sym c.nodes.ensures, sym c.within.ensures, c.if-not-within.false, sym c.has.ensures)
