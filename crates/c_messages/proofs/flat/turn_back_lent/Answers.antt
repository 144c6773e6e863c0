-- The words that are looked at are those that were lent, or both are wrong.
use mathlib.Core.Path.{◌∙◌}
use Rattle.c_messages.specs.Turning.{back_seen, back_words_seen}
use Rattle.c_messages.proofs.flat.turn_back_lent.Goals as goal

pub returns : goal.returns
returns c =
    let given = c.turn_back.ensures in
    let s = c in
    let own = s.settings_of-s.ensures.front in
    let lent = s.words_of-m.ensures.front in
    (record { answer = given.answer ∙ back_seen _ _ _ _ _ own lent; words = given.words ∙ back_words_seen _ _ _ _ _ own lent })
