-- The loop's invariant: a valid placement of a weight of at most k is known. Where there is none within k - 1, or k is 0, the first within k
-- is the first of least weight. Assumes nothing.
use mathlib.Core.Path.{refl}
use native.Mathlib.Omega.{arith}
use Rattle.search_laws.specs.Least.{at_least_zero}
use Rattle.search_total.specs.Answers.{least_reached, least_missing}
use Rattle.search_total.proofs.plain_least.Goals as goal

pub returns-in_err-start : goal.returns-in_err-start
returns-in_err-start c = rw c.from_residual.ensures (least_missing (omega (arith, c.ranges.idle)) c.in_err-start.ensures refl)

pub returns : goal.returns
returns c = least_reached (at_least_zero c.loop-k-test.false) c.loop-k.invariant c.plain_within-2.ensures
