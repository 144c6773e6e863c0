-- The settings that are looked at are those that were lent, or both are wrong.
use mathlib.Core.Path.{ap, ◌∙◌}
use Rattle.message_format.specs.Messages.{as_written}
use Rattle.c_messages.specs.Limits.{writing_within, buffer_within}
use Rattle.c_messages.proofs.write_under.Goals as goal

pub returns : goal.returns
returns c =
    let front = c.settings_of-s.ensures.front in
    let given = c.write.ensures in
    (record { answer = given.answer ∙ ap as_written (writing_within _ _ _ _ _ front); words = given.words ∙ buffer_within _ _ _ _ _ front })
