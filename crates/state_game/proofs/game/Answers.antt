-- `state_game::game` meets its contract: rows 1 and 2, then the rest. Assumes nothing.
use mathlib.Core.Path.{sym, ◌∙◌}
use borrow.Author.Tests.{eq-eqb, ne_eqb}
use Rattle.base_lent.specs.Definitions.{words_in}
use Rattle.base_lent.specs.Lent.{length-test}
use Rattle.settings_values.specs.Laws.{settings_give}
use Rattle.state_game.specs.Steps.{game_length, game_settings}
use Rattle.state_game.proofs.game.Goals as goal

pub returns-then-desk-ne65536 : goal.returns-then-desk-ne65536
returns-then-desk-ne65536 c =
    let a = c.args in
    game_length a.settings.now a.x (words_in a.desk.now) a.held a.rounds (sym (length-test a.desk.now 16383) ∙ ne_eqb _ _ c.if-desk-ne65536.true)

pub returns-then-not-check : goal.returns-then-not-check
returns-then-not-check c =
    let a = c.args in
    let k = c.check in
    game_settings a.settings.now a.x (words_in a.desk.now) a.held a.rounds
    (sym (length-test a.desk.now 16383) ∙ eq-eqb _ _ c.if-desk-ne65536.false) (sym k.ensures ∙ c.if-not-check.true)

pub game_under-requires : goal.game_under-requires
game_under-requires c =
    let k = c.check in
    record { settings = settings_give _ (sym k.ensures ∙ c.if-not-check.false); desk_len = c.if-desk-ne65536.false }

pub returns : goal.returns
returns c = c.game_under.ensures
