-- What is printed of moves: for every 64 consecutive ones a line with their sum and the greatest of them. Each line adds up its own
-- 64 moves afresh.
use Rattle.std.specs.Prelude.{ℕ, zero, suc, ◌-◌, max, List, [], ◌∷◌, ◌++◌, length, take, drop}
use Rattle.program_text.specs.Definitions.{decimal, line}
use Rattle.program_sums.specs.Definitions.{sum_of}
use Rattle.mondays_windows.specs.declared.Window.{Window}

unfoldable pub greatest_of : List ℕ → ℕ
greatest_of [] = 0
greatest_of (m ∷ ms) = max m (greatest_of ms)

-- the sum and the greatest of moves
abbrev pub window_of : List ℕ → Window
window_of ms = record { sum = sum_of ms; greatest = greatest_of ms }

-- a line: the sum, a space and the greatest
unfoldable pub window_line : Window → List ℕ
window_line w = decimal w.sum ++ line (32 ∷ []) w.greatest

-- the lines of the first n windows; window i has the 64 moves from place i on
unfoldable pub window_lines : List ℕ → ℕ → List ℕ
window_lines ms zero = []
window_lines ms (suc i) = window_lines ms i ++ window_line (window_of (take 64 (drop i ms)))

-- the lines of all windows: 64 moves have one, each move more has one more, fewer have none
unfoldable pub all_windows : List ℕ → List ℕ
all_windows ms = window_lines ms (length ms - 63)

-- the last 63 moves, or all where they are fewer: no window of later lines has others before them
abbrev pub last_moves : List ℕ → List ℕ
last_moves ms = drop (length ms - 63) ms
