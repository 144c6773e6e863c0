-- Part by part the words are those of the definition.
use Rattle.c_state_words.specs.Stores.{state_stored}
use Rattle.c_state_words.proofs.encode.Goals as goal

pub returns : goal.returns
returns c =
    rw (c.put_views.ensures, c.put_plan.ensures, c.put_kept.ensures, c.phase_number.ensures)
    (state_stored c.args.x)
