-- `mondays::print_all` meets its contract. The loop's invariant: every byte that came is taken, in full blocks where more may come. Assumes nothing.
use mathlib.Core.Path.{sym, ◌∙◌}
use native.Mathlib.Omega.{arith}
use Rattle.program_input.specs.Filling.{fills_fall}
use Rattle.mondays.specs.Program.{stands_none, stands_turn, stands_all, goes_open}
use Rattle.mondays.proofs.print_all.Goals as goal

pub loop-stream-init : goal.loop-stream-init
loop-stream-init g c = stands_none _ _ c.start.ensures c.start-2.ensures

pub loop-stream-smaller : goal.loop-stream-smaller
loop-stream-smaller g c =
    fills_fall (omega (arith, c.turn-tallied.ensures.room)) (goes_open c.loop-stream.tallied (sym c.is_going_on.ensures ∙ c.loop-stream-test.true)) c.turn-tallied.ensures.fills

pub loop-stream-preserved : goal.loop-stream-preserved
loop-stream-preserved g c = stands_turn c.loop-stream.invariant (sym c.is_going_on.ensures ∙ c.loop-stream-test.true) c.turn-tallied.ensures

pub returns : goal.returns
returns g c = stands_all c.loop-stream.invariant (sym c.is_going_on.ensures ∙ c.loop-stream-test.false)
