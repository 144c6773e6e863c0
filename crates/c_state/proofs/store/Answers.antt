-- The words of the state, as bytes.
use mathlib.Core.Path.{ap, ◌∙◌}
use Rattle.base_bytes.specs.Definitions.{bytes_of}
use Rattle.c_state.proofs.store.Goals as goal

pub returns : goal.returns
returns c = c.encode.ensures ∙ ap bytes_of c.encode-words.ensures
