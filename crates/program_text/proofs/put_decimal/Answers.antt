-- `program_text::put_decimal` meets its contract. The loop's invariant: the digits of `left`, then those stored. Assumes nothing.
use Prim.Native.Nat.{ℕ}
use native.Mathlib.Omega.{arith}
use lib.ListN.{replicate, length-replicate}
use Rattle.program_text.specs.Text.{digits_last, digits_more, digits_room, digits_all}
use Rattle.program_text.specs.Puts.{puts_as}
use Rattle.program_text.proofs.put_decimal.Goals as goal

pub loop-left-init : goal.loop-left-init
loop-left-init c = digits_last c.args.n (replicate 10 0) _ (length-replicate {A = ℕ} 10 0) (omega (arith, c.ranges.n)) c.digit.ensures

pub overflow_sub-first : goal.overflow_sub-first
overflow_sub-first c = digits_room c.loop-left.invariant c.loop-left-test.true

pub loop-left-preserved : goal.loop-left-preserved
loop-left-preserved c = digits_more _ _ _ _ _ c.loop-left.invariant c.loop-left-test.true c.digit-in-loop-left.ensures

pub returns : goal.returns
returns c = puts_as (digits_all _ _ _ _ c.loop-left.invariant c.loop-left-test.false) c.put_text.ensures
