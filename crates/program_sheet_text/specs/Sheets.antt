-- The lines of the readiness sheet as the code puts them.
use Rattle.std.specs.Prelude.{ℕ, zero, suc, List, [], ◌++◌}
use Rattle.program_sheet_text.specs.Definitions.{row_line}

-- the lines of the masks below m, as the code puts them
unfoldable pub lines_below : List ℕ → ℕ → List ℕ
lines_below l zero = []
lines_below l (suc m) = lines_below l m ++ row_line l m
