-- `report_quick::rises` meets its contract.
use mathlib.Core.Bool.{false≢true}
use mathlib.Core.Logic.{inl, inr}
use borrow.Author.Tests.{ltb-true}
use Rattle.report_quick.proofs.rises.Goals as goal

pub returns-then-before-tag : goal.returns-then-before-tag
returns-then-before-tag c =
    λ e. inl c.if-before-tag.true

pub returns-then-before-tag-2 : goal.returns-then-before-tag-2
returns-then-before-tag-2 c =
    λ e. inr (c.if-before-tag-2.true, ltb-true _ _ e)

pub returns : goal.returns
returns c =
    λ e. absurd (false≢true e)
