-- `mondays_windows::greatest_of` meets its contract. The loop's invariant: the greatest of the first i moves. Assumes nothing.
use mathlib.Core.Path.{ap, ◌∙◌}
use native.Mathlib.Omega.{arith}
use lib.Seq.{take_all}
use Rattle.mondays_windows.specs.Definitions.{greatest_of}
use Rattle.mondays_windows.specs.Sliding.{greatest_turn}
use borrow.Author.Rules.{rules}
use Rattle.mondays_windows.proofs.greatest_of.Goals as goal

pub loop-x-init : goal.loop-x-init
unfolding greatest_of
loop-x-init c = search rules

pub loop-x-preserved : goal.loop-x-preserved
loop-x-preserved c =
    let l = c.args.moves.now in
    let i = c.loop-x.x-index in greatest_turn l i c.loop-x.greatest c.max-greatest.result (omega arith) c.loop-x.invariant c.max-greatest.ensures

pub returns : goal.returns
returns c = c.loop-x.invariant ∙ ap greatest_of (take_all c.loop-x.x-index c.args.moves.now c.loop-x-test.false)
