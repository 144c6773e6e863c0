-- The loop's invariant: the sum so far is that of the nodes below n. Assumes nothing.
use Prim.Native.Nat.{ℕ, ◌*◌, ◌+◌}
use mathlib.Core.Path.{ap, ◌∙◌, sym}
use mathlib.Core.Bool.{cond}
use native.Mathlib.Omega.{arith}
use lib.Dec.{ltb}
use lib.ListN.{get_or}
use Rattle.base_sum_laws.specs.Sums.{sum_zero, sum_done}
use Rattle.base_sum_laws.proofs.Sums.{sum_turn}
use Rattle.search_laws.specs.Case.{weight}
use Rattle.search_judge.proofs.weight.Goals as goal

pub loop-n-init : goal.loop-n-init
loop-n-init c = (omega arith, sym (sum_zero _))

pub loop-n-preserved : goal.loop-n-preserved
loop-n-preserved c =
    let at = c in (
      omega arith,
      sum_turn _ _ _ _ at.loop-n.invariant.1
          (c.charge-sum.ensures.0
          ∙ ap (λ (x : ℕ). cond (ltb x 16) (get_or at.args.costs.now (x * 32 + at.loop-n.n) 0) at.args.idle) c.wide.ensures.0),
    )

pub returns : goal.returns
unfolding weight
returns c = (sum_done c.loop-n.auto.n-end c.loop-n-test.false _ _ c.loop-n.invariant.1, omega arith)
