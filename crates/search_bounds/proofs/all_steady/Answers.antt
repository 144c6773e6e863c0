-- The loop's invariant: the inequality of every node below n holds. Assumes nothing.
use mathlib.Core.Path.{sym, ◌∙◌}
use mathlib.Core.Bool.{true}
use native.Mathlib.Omega.{arith}
use Rattle.base_laws.specs.Below.{all_none}
use Rattle.base_laws.proofs.Below.{all_more, all_fails}
use Rattle.base_laws.specs.Loops.{all_done}
use Rattle.search_bounds.proofs.all_steady.Goals as goal

pub loop-n-init : goal.loop-n-init
loop-n-init c = all_none _

pub returns-then-not-steady : goal.returns-then-not-steady
returns-then-not-steady c =
    sym
    (all_fails 32 _ c.loop-n.n (omega arith)
    (sym c.steady.ensures ∙ c.if-not-steady.true))

pub loop-n-preserved : goal.loop-n-preserved
loop-n-preserved c = all_more _ _ c.loop-n.invariant
    (sym c.steady.ensures ∙ c.if-not-steady.false)

pub returns : goal.returns
returns c = sym (all_done c.loop-n.auto.n-end c.loop-n-test.false true _ c.loop-n.invariant)
