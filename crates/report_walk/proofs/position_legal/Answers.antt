-- `report_walk::position_legal` meets its contract.
use Rattle.report_views.specs.Definitions.{position_sound}
use Rattle.std.proofs.Common.{sym}
use Rattle.report_walk.proofs.position_legal.Goals as goal

pub returns-then-not-position : goal.returns-then-not-position
unfolding position_sound
returns-then-not-position c = simp (sym c.position.ensures, c.if-not-position.true)

pub returns : goal.returns
unfolding position_sound
returns c = simp (sym c.position.ensures, c.if-not-position.false)
