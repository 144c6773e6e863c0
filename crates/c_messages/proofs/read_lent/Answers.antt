-- What is read of the words that are looked at is what is read of those that were lent.
use mathlib.Core.Path.{ap, ap₂, ◌∙◌}
use Rattle.message_format.specs.Messages.{reading_of, as_read}
use Rattle.c_messages.specs.Limits.{reading_within}
use Rattle.c_messages.proofs.read_lent.Goals as goal

pub returns : goal.returns
returns c =
    c.read.ensures
    ∙ ap as_read (ap₂ (reading_of _) c.settings_of-s.ensures.front c.words_of-m.ensures.front ∙ reading_within _ _ _)
