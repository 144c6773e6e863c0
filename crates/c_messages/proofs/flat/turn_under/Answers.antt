-- The settings that are looked at are those that were lent, or both are wrong.
use mathlib.Core.Path.{◌∙◌}
use Rattle.c_messages.specs.Turning.{turning_within, turned_within}
use Rattle.c_messages.proofs.flat.turn_under.Goals as goal

pub returns : goal.returns
returns c =
    let front = c.settings_of-s.ensures.front in
    let given = c.turn.ensures in
    (record { answer = given.answer ∙ turning_within _ _ _ _ front; words = given.words ∙ turned_within _ _ _ _ front })
