-- The loop's invariant: the sum so far is that of the shards below i. Assumes nothing.
use Prim.Native.Nat.{ℕ, ◌-◌, min}
use mathlib.Core.Path.{sym, ap₂, ◌∙◌}
use native.Mathlib.Omega.{arith}
use Rattle.base_sum_laws.specs.Sums.{sum_zero, sum_done}
use Rattle.base_sum_laws.proofs.Sums.{sum_turn}
use Rattle.search_laws.specs.Floor.{lack_at, floor_of}
use Rattle.search_judge.proofs.floor.floor.Goals as goal

pub loop-i-init : goal.loop-i-init
loop-i-init c = (omega arith, sym (sum_zero _))

pub loop-i-preserved : goal.loop-i-preserved
unfolding lack_at
loop-i-preserved c = (
  omega (arith, c.beyond-sum.ensures.1, c.wide.ensures.1),
  sum_turn _ _ _ _ c.loop-i.invariant.1
      (c.beyond-sum.ensures.0 ∙ ap₂ (λ (a b : ℕ). a - min a b) c.wide.ensures.0 c.entries.ensures),
)

pub returns : goal.returns
unfolding floor_of
returns c = sum_done c.loop-i.auto.i-end c.loop-i-test.false _ _ c.loop-i.invariant.1
