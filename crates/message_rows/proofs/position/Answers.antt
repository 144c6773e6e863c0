-- `message_rows::position` meets its contract: the view is 0, or it is from 1.
use mathlib.Core.Bool.{or-false}
use native.Mathlib.Omega.{arith}
use borrow.Author.Tests.{eq-eqb, ne_eqb, le-leb, lt-leb}
use Rattle.message_format.specs.Definitions.{is_position}
use Rattle.message_rows.proofs.position.Goals as goal

pub returns-then-view-eq0 : goal.returns-then-view-eq0
unfolding is_position
returns-then-view-eq0 c = simp (eq-eqb _ _ c.if-view-eq0.true, lt-leb 1 c.args.p.view.0 (omega arith), or-false)

pub returns : goal.returns
unfolding is_position
returns c = simp (ne_eqb _ _ c.if-view-eq0.false, le-leb 1 c.args.p.view.0 (omega arith))
