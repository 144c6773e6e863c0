-- The loop's invariant: no shard below i needs more sets than have a node for it. Assumes nothing.
use mathlib.Core.Path.{sym, ◌∙◌}
use mathlib.Core.Bool.{false}
use native.Mathlib.Omega.{arith}
use Rattle.base_laws.specs.Below.{any_none, any_more, any_at}
use Rattle.base_laws.specs.Loops.{any_done}
use Rattle.search_laws.specs.Floor.{too_few}
use Rattle.search_judge.proofs.floor.short.Goals as goal

pub loop-i-init : goal.loop-i-init
loop-i-init c = any_none _

pub returns-then-short_at : goal.returns-then-short_at
unfolding too_few
returns-then-short_at c = sym (any_at 16 _ c.loop-i.i (omega arith) (sym c.short_at.ensures ∙ c.if-short_at.true))

pub loop-i-preserved : goal.loop-i-preserved
loop-i-preserved c = any_more _ _ c.loop-i.invariant (sym c.short_at.ensures ∙ c.if-short_at.false)

pub returns : goal.returns
unfolding too_few
returns c = sym (any_done c.loop-i.auto.i-end c.loop-i-test.false false _ c.loop-i.invariant)
