-- Row 2 first; what right settings give is what the other rows ask.
use mathlib.Core.Path.{sym, ap, ◌∙◌}
use Rattle.settings_values.specs.Laws.{settings_give}
use Rattle.message_format.specs.Messages.{as_read}
use Rattle.message_reader.specs.Readings.{reading_settings, reading_message}
use Rattle.message_reader.proofs.read.Goals as goal

pub returns-then-not-check : goal.returns-then-not-check
returns-then-not-check c = reading_settings _ _ _ (sym c.check.ensures ∙ c.if-not-check.true)

pub read_under-requires : goal.read_under-requires
read_under-requires c = settings_give _ (sym c.check.ensures ∙ c.if-not-check.false)

pub returns : goal.returns
returns c = c.read_under.ensures ∙ ap as_read (reading_message _ _ _ (sym c.check.ensures ∙ c.if-not-check.false))
