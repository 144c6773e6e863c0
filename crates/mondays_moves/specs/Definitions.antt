-- What contracts cite, each definition after those that it builds on. Laws stand in the files beside this one.
use Rattle.std.specs.Prelude.{ℕ, ◌+◌, ◌*◌, ◌/◌, ◌%◌, cond, List, [], ◌∷◌, ◌++◌, eqb, leb, length, take}
use Rattle.base_laws.specs.Definitions.{tabulate, padded}
use Rattle.base_ids.specs.declared.Refusal.{Refusal}
use Rattle.base_ids.specs.Definitions.{none, accepted, unless, first_of}
use Rattle.base_bytes.specs.Definitions.{word_at}
use Rattle.program_text.specs.Definitions.{number_line}
use Rattle.mondays_windows.specs.Definitions.{all_windows, last_moves}
use Rattle.mondays_moves.specs.declared.Tally.{Tally}

-- ---- The moves file and what is printed for it. A line is a restart number and its moves, two little-endian words.

pub record MovesLine : Type 0 where
  pub number : ℕ
  pub moves : ℕ

-- line i of the bytes
abbrev pub line_at : List ℕ → ℕ → MovesLine
line_at bytes i = record { number = word_at bytes (2 * i); moves = word_at bytes (2 * i + 1) }

-- the whole lines of the bytes
unfoldable pub lines_of : List ℕ → List MovesLine
lines_of bytes = tabulate (length bytes / 8) (line_at bytes)

-- a line whose number has to be `least` or greater: 24 if it is less, then 25 for more than 128 moves
unfoldable pub line_refusal : ℕ → MovesLine → Refusal
line_refusal least l = unless (leb least l.number) 24 (unless (leb l.moves 128) 25 none)

-- what lines give: the moves of those before the first bad one, the least number that may stand after these, and the refusal of the bad one
pub record LineWalk : Type 0 where
  pub moves : List ℕ
  pub least : ℕ
  pub refusal : Refusal

-- the same after other moves
abbrev pub walk_after : List ℕ → LineWalk → LineWalk
walk_after ms w = record { moves = ms ++ w.moves; least = w.least; refusal = w.refusal }

-- the lines from the first on; each number is greater than the one before it
unfoldable pub walk : ℕ → List MovesLine → LineWalk
walk least [] = record { moves = []; least = least; refusal = none }
walk least (l ∷ ls) =
    cond (accepted (line_refusal least l)) (walk_after (l.moves ∷ []) (walk (l.number + 1) ls))
    (record { moves = []; least = least; refusal = line_refusal least l })

-- 24 for n bytes that end in a line cut short
unfoldable pub cut_refusal : ℕ → Refusal
cut_refusal n = unless (eqb (n % 8) 0) 24 none

-- the line of a refusal, if there is one
unfoldable pub refusal_line : Refusal → List ℕ
refusal_line r = cond (accepted r) [] (number_line r)

-- the refusal of the file: the first bad line speaks
unfoldable pub file_refusal : List ℕ → Refusal
file_refusal bytes = first_of (walk 0 (lines_of bytes)).refusal (cut_refusal (length bytes))

-- what is printed for the file: every window of the lines before the first bad one, then its number
unfoldable pub mondays_text : List ℕ → List ℕ
mondays_text bytes = all_windows (walk 0 (lines_of bytes)).moves ++ refusal_line (file_refusal bytes)

-- ---- What is kept between blocks of the moves file, what a block puts, and the tally after it.

-- the tally after moves: the last 63 of them are kept, with zeros after them
unfoldable pub tally_of : List ℕ → ℕ → Refusal → Tally
tally_of ms least refusal =
    record { refusal = refusal; least = least; count = length (last_moves ms); kept = padded 63 (last_moves ms) }

-- the moves that a tally keeps
unfoldable pub kept_moves : Tally → List ℕ
kept_moves t = take t.count t.kept

-- the lines of a block, after what is kept
unfoldable pub block_walk : Tally → List ℕ → LineWalk
block_walk t bytes = walk_after (kept_moves t) (walk t.least (lines_of bytes))

unfoldable pub block_refusal : Tally → List ℕ → Refusal
block_refusal t bytes = first_of (block_walk t bytes).refusal (cut_refusal (length bytes))

-- what a block puts: nothing after a refusal
unfoldable pub block_text : Tally → List ℕ → List ℕ
block_text t bytes = cond (accepted t.refusal) (all_windows (block_walk t bytes).moves ++ refusal_line (block_refusal t bytes)) []

-- the tally after a block: after a refusal the same
unfoldable pub tally_after : Tally → List ℕ → Tally
tally_after t bytes =
    cond (accepted t.refusal) (tally_of (block_walk t bytes).moves (block_walk t bytes).least (block_refusal t bytes)) t
