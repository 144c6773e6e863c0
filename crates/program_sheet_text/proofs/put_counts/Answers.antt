-- `program_sheet_text::put_counts` meets its contract: one count after another, and a newline. Assumes nothing.
use mathlib.Core.Path.{sym, ap}
use Rattle.program_text.specs.Definitions.{decimal}
use Rattle.program_text.specs.Puts.{then-puts, puts_as}
use Rattle.program_sheet_text.specs.Definitions.{counts_line}
use Rattle.program_sheet_text.proofs.put_counts.Goals as goal

pub put_count-second-requires : goal.put_count-second-requires
put_count-second-requires c = (c.put_decimal-plans.ensures.within, c.requires.1)

pub put_count-third-requires : goal.put_count-third-requires
put_count-third-requires c = (c.put_count-second.ensures.within, c.requires.1)

pub put_count-fourth-requires : goal.put_count-fourth-requires
put_count-fourth-requires c = (c.put_count-third.ensures.within, c.requires.1)

pub put_count-fifth-requires : goal.put_count-fifth-requires
put_count-fifth-requires c = (c.put_count-fourth.ensures.within, c.requires.1)

pub returns : goal.returns
unfolding counts_line
returns c =
    let p = c.requires.0 in
    let plans = c.put_decimal-plans in
    let found = c.rows_with in
    let second = c.put_count-second in
    let third = c.put_count-third in
    let fourth = c.put_count-fourth in
    let fifth = c.put_count-fifth in
    then-puts p
    (then-puts p (then-puts p (then-puts p (then-puts p (puts_as (ap decimal (sym found.ensures)) plans.ensures) second.ensures) third.ensures) fourth.ensures) fifth.ensures)
    c.put_byte.ensures
