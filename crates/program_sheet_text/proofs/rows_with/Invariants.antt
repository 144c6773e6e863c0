use mathlib.Core.Path.{◌≡◌}
use Rattle.program_sheet_text.specs.Definitions.{rows_with}
use Rattle.program_sheet_text.proofs.rows_with.Given as goal

abbrev pub invariant-loop-mask : goal.invariant-loop-mask
invariant-loop-mask l = l.found ≡ rows_with l.rows l.mask l.number
