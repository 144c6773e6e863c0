-- The table is the words with zeros after them.
use mathlib.Core.Path.{◌∙◌}
use Rattle.c_messages.specs.WriteCalls.{contents_held}
use Rattle.c_messages.proofs.contents_lent.Goals as goal

pub returns : goal.returns
returns c = c.contents_in.ensures ∙ contents_held _ _ _ c.words_of-l.ensures
