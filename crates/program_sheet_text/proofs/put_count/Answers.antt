-- `program_sheet_text::put_count` meets its contract. Assumes nothing.
use mathlib.Core.Path.{sym, ap}
use Rattle.program_text.specs.Definitions.{field, space}
use Rattle.program_text.specs.Puts.{puts_as}
use Rattle.program_sheet_text.proofs.put_count.Goals as goal

pub returns : goal.returns
returns c = puts_as (ap (field space) (sym c.rows_with.ensures)) c.put_field.ensures
