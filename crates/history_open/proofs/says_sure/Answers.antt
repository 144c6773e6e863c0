-- `history_open::says_sure` meets its contract: each test in its turn.
use mathlib.Core.Path.{sym}
use borrow.Author.Tests.{eq-eqb, ne_eqb}
use Rattle.history_open.specs.Definitions.{says_sure}
use Rattle.history_open.proofs.says_sure.Goals as goal

pub returns-then-known-ne0 : goal.returns-then-known-ne0
unfolding says_sure
returns-then-known-ne0 c = simp (ne_eqb _ _ c.if-known-ne0.true)

pub returns-then-members-eq0 : goal.returns-then-members-eq0
unfolding says_sure
returns-then-members-eq0 c = simp (eq-eqb _ _ c.if-known-ne0.false, eq-eqb _ _ c.if-members-eq0.true)

pub returns : goal.returns
unfolding says_sure
returns c = simp (eq-eqb _ _ c.if-known-ne0.false, ne_eqb _ _ c.if-members-eq0.false, sym c.subset.ensures)
