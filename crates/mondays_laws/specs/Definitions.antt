-- The tally after blocks of the moves file.
use Rattle.std.specs.Prelude.{ℕ, List}
use Rattle.mondays_moves.specs.declared.Tally.{Tally}
use Rattle.mondays_moves.specs.Definitions.{lines_of, walk, file_refusal, tally_of}

-- the tally that stands after bytes of whole lines
unfoldable pub standing_text : List ℕ → Tally
standing_text bytes = tally_of (walk 0 (lines_of bytes)).moves (walk 0 (lines_of bytes)).least (file_refusal bytes)
