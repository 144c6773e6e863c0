-- A win or a refusal.
use borrow.Author.Rules.{rules}
use Rattle.c_events.proofs.game.played_word.Goals as goal

pub winner_word-requires : goal.winner_word-requires
winner_word-requires c = rw c.in-Won.is at c.requires

pub returns-in-Unplayed : goal.returns-in-Unplayed
returns-in-Unplayed c = search rules
