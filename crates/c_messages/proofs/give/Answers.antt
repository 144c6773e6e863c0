-- The words, as bytes.
use Rattle.c_messages.proofs.give.Goals as goal

pub returns : goal.returns
returns c = (c.with_length.ensures, c.encode.ensures)
