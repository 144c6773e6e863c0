-- The words of the state and zeros, as bytes.
use mathlib.Core.Path.{ap, ◌∙◌}
use Rattle.base_laws.specs.Definitions.{padded}
use Rattle.base_bytes.specs.Definitions.{bytes_of}
use Rattle.c_events.proofs.preview.store.Goals as goal

pub returns : goal.returns
returns c = c.encode.ensures ∙ ap bytes_of (c.padded-table.ensures ∙ ap (padded 512) c.encode-words.ensures)
