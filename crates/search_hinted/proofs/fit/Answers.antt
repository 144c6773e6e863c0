-- The loop's invariant: every set of a node below n is below 16. Assumes nothing.
use mathlib.Core.Bool.{false≢true}
use native.Mathlib.Omega.{arith}
use borrow.Author.Count.{below_more}
use Rattle.search_hinted.proofs.fit.Goals as goal

pub loop-n-init : goal.loop-n-init
loop-n-init c = λ k l. absurd (omega arith)

pub returns-then-sets-n-ge16 : goal.returns-then-sets-n-ge16
returns-then-sets-n-ge16 c = λ e. absurd (false≢true e)

pub loop-n-preserved : goal.loop-n-preserved
loop-n-preserved c = below_more _ _ c.loop-n.invariant c.if-sets-n-ge16.false

pub returns : goal.returns
returns c = λ e. record { below = λ k l. c.loop-n.invariant k (omega arith) }
