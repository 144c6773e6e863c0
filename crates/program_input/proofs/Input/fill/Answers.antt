-- `program_input::Input::fill` meets its contract. The loop's invariant: reads have led here, and what they gave is the start of the
-- block. Assumes nothing.
use mathlib.Core.Path.{refl, sym, ◌∙◌}
use native.Mathlib.Omega.{arith}
use Rattle.program_input.specs.Inputs.{reads_fall}
use Rattle.program_input.specs.Filling.{length_lent, filling_none, filling_turn, lent_length, fills_full, fills_short}
use borrow.Author.Rules.{rules}
use Rattle.program_input.proofs.Input.fill.Goals as goal

pub loop-stream-init : goal.loop-stream-init
loop-stream-init c = (filling_none _ _ c.requires.0, refl)

pub slice_bounds-read-start : goal.slice_bounds-read-start
slice_bounds-read-start c = search rules

pub read-input-requires : goal.read-input-requires
read-input-requires c =
    let s = c in
    let part = length_lent s.loop-stream.block s.loop-stream.len in
    (omega (arith, part, c.if-len-block.true), omega (arith, part, s.loop-stream.invariant.1, c.requires.1))

pub overflow_add-len : goal.overflow_add-len
overflow_add-len c =
    let s = c in
    omega (arith, c.got-len.ensures, c.read-input.ensures.got_in_bounds, c.read-input.auto.buffer, length_lent s.loop-stream.block s.loop-stream.len, s.loop-stream.invariant.0.within, s.loop-stream.invariant.1, c.requires.1)

pub loop-stream-smaller : goal.loop-stream-smaller
loop-stream-smaller c =
    reads_fall _ _ _ (sym c.is_open.ensures ∙ c.loop-stream-test.true)
    c.read-input.ensures.reads_on

pub loop-stream-preserved : goal.loop-stream-preserved
loop-stream-preserved c =
    let s = c in
    let d = c in (
      filling_turn s.loop-stream.block d.read-input.new.buffer s.loop-stream.len s.loop-stream.invariant.0.within d.read-input.auto.buffer _ s.loop-stream.input _ c.got-len.result s.loop-stream.invariant.0
          c.if-len-block.true c.got-len.ensures d.read-input.ensures.got_in_bounds d.read-input.ensures.reads_on,
      lent_length s.loop-stream.block d.read-input.new.buffer s.loop-stream.len s.loop-stream.invariant.0.within d.read-input.auto.buffer ∙ s.loop-stream.invariant.1,
    )

pub shape_of-block-else-len-block : goal.shape_of-block-else-len-block
shape_of-block-else-len-block c = c.loop-stream.invariant.1

pub returns-else-len-block : goal.returns-else-len-block
returns-else-len-block c = fills_full c.loop-stream.invariant.0 (sym c.is_open.ensures ∙ c.loop-stream-test.true) c.if-len-block.false

pub shape_of-block-after-loop-stream : goal.shape_of-block-after-loop-stream
shape_of-block-after-loop-stream c = c.loop-stream.invariant.1

pub returns-after-loop-stream : goal.returns-after-loop-stream
returns-after-loop-stream c = fills_short c.loop-stream.invariant.0 (sym c.is_open.ensures ∙ c.loop-stream-test.false)
