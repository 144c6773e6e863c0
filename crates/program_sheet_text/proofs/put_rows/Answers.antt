-- `program_sheet_text::put_rows` meets its contract. The loop's invariant: the lines of the masks below `mask` are put. Assumes nothing.
use Prim.Native.Nat.{ℕ, zero-le}
use mathlib.Core.Path.{sym, ap}
use native.Mathlib.Omega.{arith}
use lib.ListN.{get_or}
use Rattle.program_text.specs.Puts.{puts_as, puts_none, then-puts}
use Rattle.program_sheet_text.specs.Definitions.{mask_line}
use Rattle.program_sheet_text.specs.Sheets.{lines_below}
use Rattle.program_sheet_text.specs.Laws.{lines_step}
use Rattle.program_sheet_text.proofs.put_rows.Goals as goal

pub loop-mask-init : goal.loop-mask-init
unfolding lines_below
loop-mask-init c = puts_none _ _ zero-le

pub bounds-rows-wide : goal.bounds-rows-wide
bounds-rows-wide c =
    omega (arith, c.wide.ensures, c.loop-mask-test.true, c.requires)

pub loop-mask-preserved : goal.loop-mask-preserved
loop-mask-preserved c =
    let rows = c.args.rows.now in
    let l = c.loop-mask in puts_as (lines_step rows l.mask)
    (then-puts zero-le l.invariant
    (puts_as (ap (λ (k : ℕ). mask_line l.mask (get_or rows k 0)) (sym c.wide.ensures)) c.put_row-next.ensures))

pub returns : goal.returns
returns c = puts_as (ap (lines_below c.args.rows.now) (omega arith)) c.loop-mask.invariant
