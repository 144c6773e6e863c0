-- The loop's invariant: the count so far is that of the sets below f. Assumes nothing.
use mathlib.Core.Path.{sym}
use native.Mathlib.Omega.{arith}
use Rattle.base_laws.specs.Below.{count_zero}
use Rattle.base_laws.specs.Loops.{count_turn, count_done}
use Rattle.search_laws.specs.Floor.{entries_below}
use Rattle.search_judge.proofs.floor.entries.Goals as goal

pub loop-f-init : goal.loop-f-init
loop-f-init c = (omega arith, sym (count_zero _))

pub loop-f-preserved : goal.loop-f-preserved
loop-f-preserved c = (omega arith, count_turn _ _ _ _ c.loop-f.invariant.1 c.below-count.ensures.0)

pub returns : goal.returns
unfolding entries_below
returns c = count_done c.loop-f.auto.f-end c.loop-f-test.false _ _ c.loop-f.invariant.1
