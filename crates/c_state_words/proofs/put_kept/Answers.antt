-- The stores are those of the definition.
use Rattle.c_state_words.specs.Stores.{store_kept}
use Rattle.c_state_words.proofs.put_kept.Goals as goal

pub returns : goal.returns
unfolding store_kept
returns c = rw (c.put_positions.ensures, c.put_masks.ensures, c.flag.ensures)
