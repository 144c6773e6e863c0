-- The game's limits, row by row, computed.
use Rattle.std.specs.Prelude.{ℕ, true, false, List, [], ◌∷◌, ◌≡◌, refl}
use Rattle.state_game.specs.Definitions.{game_limits}

-- settings of four nodes: the words after the first play no part
abbrev four_nodes : List ℕ
four_nodes = 4 ∷ []

pub record LimitRows : Type 0 where
  pub all_held : game_limits four_nodes 15 3 ≡ true
  pub nobody_held : game_limits four_nodes 0 0 ≡ true
  pub fourth_round : game_limits four_nodes 15 4 ≡ false
  pub fifth_node : game_limits four_nodes 16 3 ≡ false
  pub another_too : game_limits four_nodes 17 0 ≡ false

pub limit_rows : LimitRows
unfolding game_limits
limit_rows = record { all_held = refl; nobody_held = refl; fourth_round = refl; fifth_node = refl; another_too = refl }
