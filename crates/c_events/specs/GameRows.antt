-- The answers of a game, row by row, computed: class 5, and 256 beside the outage's first move.
use Rattle.std.specs.Prelude.{◌+◌, ◌*◌, ◌≡◌, refl}
use Rattle.base_ids.specs.Definitions.{refused}
use Rattle.game_rules.specs.declared.Lead.TheVariants.{Taking, Passing}
use Rattle.game_rules.specs.declared.Winner.TheVariants.{Crew, Outage}
use Rattle.state_game.specs.declared.Played.TheVariants.{Won, Unplayed}
use Rattle.c_events.specs.Definitions.{played_word}

pub record GameWordRows : Type 0 where
  pub crew-holds : played_word (Won Crew) ≡ 5 * 16777216
  pub node_0 : played_word (Won (Outage (Taking (record { 0 = 0 })))) ≡ 5 * 16777216 + 256
  pub node_9 : played_word (Won (Outage (Taking (record { 0 = 9 })))) ≡ 5 * 16777216 + 256 + 9
  pub passes : played_word (Won (Outage Passing)) ≡ 5 * 16777216 + 256 + 32
  pub too_large : played_word (Unplayed (refused 22)) ≡ 22

pub game_word_rows : GameWordRows
game_word_rows = record { crew-holds = refl; node_0 = refl; node_9 = refl; passes = refl; too_large = refl }
