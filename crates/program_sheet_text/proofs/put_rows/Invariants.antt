use Rattle.program_text.specs.Definitions.{Puts}
use Rattle.program_sheet_text.specs.Sheets.{lines_below}
use Rattle.program_sheet_text.proofs.put_rows.Given as goal

abbrev pub invariant-loop-mask : goal.invariant-loop-mask
invariant-loop-mask l = Puts l.initial.out 0 (lines_below l.rows l.mask) l.out l.next
