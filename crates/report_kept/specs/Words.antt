-- Masks and positions of a body by the number of shards, and one of two terminations.
use Rattle.std.specs.Prelude.{ℕ, ◌+◌, cond, List, ltb}
use Rattle.base_laws.specs.Definitions.{tabulate}
use Rattle.base_ids.specs.declared.Position.{Position}
use Rattle.message_format.specs.Definitions.{word1, word2, members_of}
use Rattle.report_views.specs.declared.Termination.{Termination}
use Rattle.report_views.specs.Definitions.{pos, start}

-- the members of shard s, of the first count
abbrev pub mask_in : List ℕ → ℕ → ℕ → ℕ
mask_in b count s = cond (ltb s count) (members_of b s) 0

unfoldable pub masks_in : List ℕ → ℕ → List ℕ
masks_in b count = tabulate 16 (mask_in b count)

-- the position that record s after the first count has, of the first count
abbrev pub position_in : List ℕ → ℕ → ℕ → Position
position_in b count s = cond (ltb s count) (pos (word1 b (count + s)) (word2 b (count + s))) start

unfoldable pub positions_in : List ℕ → ℕ → List Position
positions_in b count = tabulate 16 (position_in b count)

-- the first termination if one was made, or else the second
abbrev pub made_first : Termination → Termination → Termination
made_first t u = cond t.made t u
