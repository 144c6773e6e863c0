-- `report_quick::position_told` meets its contract.
use mathlib.Core.Bool.{false≢true}
use native.Mathlib.Omega.{arith}
use mathlib.Core.Path.{sym, ◌∙◌}
use Rattle.report_quick.proofs.position_told.Goals as goal

pub returns-then-w-i : goal.returns-then-w-i
returns-then-w-i c =
    λ e. absurd (false≢true e)

pub returns-then-w-i-2 : goal.returns-then-w-i-2
returns-then-w-i-2 c =
    λ e. absurd (false≢true e)

pub returns-then-view-w : goal.returns-then-view-w
returns-then-view-w c =
    λ e. absurd (false≢true e)

pub returns : goal.returns
returns c =
    λ e. record { linked = c.if-w-i.false; tagged = c.if-w-i-2.false; view_to = omega arith; placed = sym c.position.ensures ∙ e }
