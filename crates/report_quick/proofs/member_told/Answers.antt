-- `report_quick::member_told` meets its contract.
use mathlib.Core.Bool.{false≢true}
use borrow.Author.Tests.{eqb-true}
use Rattle.report_quick.proofs.member_told.Goals as goal

pub returns-then-w-s : goal.returns-then-w-s
returns-then-w-s c =
    λ e. absurd (false≢true e)

pub returns-then-w-s-2 : goal.returns-then-w-s-2
returns-then-w-s-2 c =
    λ e. absurd (false≢true e)

pub returns : goal.returns
returns c =
    λ e. record { linked = c.if-w-s.false; tagged = c.if-w-s-2.false; plain = eqb-true _ 0 e }
