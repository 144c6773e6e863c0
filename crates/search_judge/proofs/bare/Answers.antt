-- Each branch by its test. Assumes nothing.
use mathlib.Core.Path.{sym, ◌∙◌}
use mathlib.Core.Bool.{false≢true}
use native.Mathlib.Omega.{arith}
use Rattle.base_laws.specs.Bools.{of_not_true}
use Rattle.search_judge.proofs.bare.Goals as goal

pub returns-then-needs-i-gt0 : goal.returns-then-needs-i-gt0
returns-then-needs-i-gt0 c = λ e. absurd (false≢true e)

pub returns : goal.returns
returns c = λ e. (omega (arith, c.if-needs-i-gt0.false), sym c.has.ensures ∙ of_not_true c.has.result e)
