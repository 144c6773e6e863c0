-- The parts are those of the definition.
use Rattle.c_state_words.specs.Definitions.{layout_at}
use Rattle.c_state_words.proofs.layout_at.Goals as goal

pub returns : goal.returns
unfolding layout_at
returns c = rw c.sixteen.ensures
