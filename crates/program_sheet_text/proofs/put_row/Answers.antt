-- `program_sheet_text::put_row` meets its contract: the mask, and after it the number. Assumes nothing.
use mathlib.Core.Path.{sym, ap}
use Rattle.program_text.specs.Puts.{then-puts, puts_as}
use Rattle.program_text.specs.Definitions.{line, space}
use Rattle.program_sheet_text.specs.Definitions.{mask_line}
use Rattle.program_sheet_text.proofs.put_row.Goals as goal

pub returns : goal.returns
unfolding mask_line
returns c = then-puts c.requires c.put_decimal-next.ensures (puts_as (ap (line space) (sym c.from.ensures)) c.put_line.ensures)
