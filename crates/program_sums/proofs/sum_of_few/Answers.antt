-- `program_sums::sum_of_few` meets its contract. The loop's invariant: the sum of the first i bytes, each below 256. Assumes nothing.
use mathlib.Core.Path.{ap, ◌∙◌}
use native.Mathlib.Omega.{arith}
use lib.Seq.{take_all}
use Rattle.program_sums.specs.Definitions.{sum_of}
use Rattle.program_sums.specs.Sums.{sum_turn}
use borrow.Author.Rules.{rules}
use Rattle.program_sums.proofs.sum_of_few.Goals as goal

pub loop-x-init : goal.loop-x-init
unfolding sum_of
loop-x-init c = search rules

pub overflow_add-sum : goal.overflow_add-sum
overflow_add-sum c = omega (arith, c.type_inv.bytes c.loop-x.x-index)

pub loop-x-preserved : goal.loop-x-preserved
loop-x-preserved c =
    let l = c.args.bytes.now in
    let i = c.loop-x.x-index in (omega (arith, c.type_inv.bytes i), sum_turn l i c.loop-x.sum _ (omega arith) c.loop-x.invariant.1 (search rules))

pub returns : goal.returns
returns c = c.loop-x.invariant.1 ∙ ap sum_of (take_all c.loop-x.x-index c.args.bytes.now c.loop-x-test.false)
