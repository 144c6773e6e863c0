-- `mondays::turn` meets its contract: the block is filled, and taken unless reading was cut. Assumes nothing.
use mathlib.Core.Path.{sym, ◌∙◌}
use Rattle.mondays.specs.Program.{turn_cut, turn_taken}
use borrow.Author.Rules.{rules}
use Rattle.mondays.proofs.turn.Goals as goal

pub returns-then-is_cut : goal.returns-then-is_cut
returns-then-is_cut g c = turn_cut (search rules) c.fill-filled.ensures (sym c.is_cut.ensures ∙ c.if-is_cut.true)

pub returns : goal.returns
returns g c = turn_taken (search rules) c.fill-filled.ensures (sym c.is_cut.ensures ∙ c.if-is_cut.false) c.print_block-shown.ensures
