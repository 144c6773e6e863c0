-- `report_quick::run_fits` meets its contract.
use mathlib.Core.Bool.{false≢true}
use native.Mathlib.Omega.{arith}
use borrow.Author.Tests.{leb-true}
use Rattle.report_quick.proofs.run_fits.Goals as goal

pub returns-then-not-rises : goal.returns-then-not-rises
returns-then-not-rises c =
    λ e. absurd (false≢true e)

pub returns-then-tag-lt768 : goal.returns-then-tag-lt768
returns-then-tag-lt768 c =
    λ e. absurd (false≢true e)

pub returns-then-count-tag : goal.returns-then-count-tag
returns-then-count-tag c =
    λ e. absurd (false≢true e)

pub returns-then-v-lt1 : goal.returns-then-v-lt1
returns-then-v-lt1 c =
    λ e. absurd (false≢true e)

pub returns-then-view-v : goal.returns-then-view-v
returns-then-view-v c =
    λ e. absurd (false≢true e)

pub returns : goal.returns
returns c =
    λ e. record { rises = c.rises.ensures c.if-not-rises.false; low = omega arith; high = omega arith; view_from = omega arith; view_to = omega arith; some = leb-true 1 _ e }
