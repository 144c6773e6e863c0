-- The move that the call game names, as a number.
use Rattle.std.specs.Prelude.{ℕ}
use Rattle.game_rules.specs.declared.Lead.{Lead}
use Rattle.game_rules.specs.declared.Lead.TheVariants.{Taking, Passing}
use Rattle.game_rules.specs.declared.Winner.{Winner}
use Rattle.game_rules.specs.declared.Winner.TheVariants.{Crew, Outage}
use Rattle.state_game.specs.declared.Played.{Played}
use Rattle.state_game.specs.declared.Played.TheVariants.{Won, Unplayed}

-- the first move as a number: the node, or 32 for passing
abbrev pub lead_move : Lead → ℕ
lead_move (Taking n) = n.0
lead_move Passing = 32

-- the move that an outcome names, or 0
abbrev pub winner_move : Winner → ℕ
winner_move Crew = 0
winner_move (Outage f) = lead_move f

abbrev pub played_move : Played → ℕ
played_move (Won w) = winner_move w
played_move (Unplayed r) = 0
