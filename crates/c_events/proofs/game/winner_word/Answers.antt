-- Side by side.
use borrow.Author.Rules.{rules}
use Rattle.c_events.proofs.game.winner_word.Goals as goal

pub lead_word-requires : goal.lead_word-requires
lead_word-requires c = rw c.in-Outage.is at c.requires

pub returns-in-Crew : goal.returns-in-Crew
returns-in-Crew c = search rules
