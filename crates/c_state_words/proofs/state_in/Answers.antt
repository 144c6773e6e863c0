-- The parts are those of the definition.
use Rattle.c_state_words.specs.Definitions.{state_in}
use Rattle.c_state_words.proofs.state_in.Goals as goal

pub returns : goal.returns
unfolding state_in
returns c = rw (c.phase_of.ensures, c.layout_at.ensures, c.positions_at.ensures, c.layout_at-2.ensures, c.nodes_at.ensures, c.positions_at-2.ensures, c.views_at.ensures)
