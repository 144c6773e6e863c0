-- A block of the moves file is taken.
use Rattle.std.specs.Prelude.{ℕ, List, ◌≡◌, replicate}
use Rattle.base_ids.specs.Definitions.{none}
use Rattle.program_text.specs.Definitions.{Puts}
use Rattle.mondays_moves.specs.declared.Tally.{Tally}
use Rattle.mondays_moves.specs.declared.MovesTaken.{MovesTaken}
use Rattle.mondays_moves.specs.Definitions.{block_text, tally_after}

-- before the first line
abbrev pub fresh_tally : Tally
fresh_tally = record { refusal = none; least = 0; count = 0; kept = replicate 63 0 }

-- a block is taken: the tally after it, and its text in the bytes `out`
pub record TakesBlock (t : Tally) (bytes out : List ℕ) (r : MovesTaken) (after : List ℕ) : Type 0 where
  pub tally : r.tally ≡ tally_after t bytes
  pub puts : Puts out 0 (block_text t bytes) after r.len
