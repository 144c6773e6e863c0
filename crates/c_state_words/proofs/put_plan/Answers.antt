-- The stores are those of the definition.
use Rattle.c_state_words.specs.Stores.{store_plan}
use Rattle.c_state_words.proofs.put_plan.Goals as goal

pub returns : goal.returns
unfolding store_plan
returns c = rw (c.put_positions.ensures, c.put_holders.ensures, c.put_masks.ensures)
