-- Bytes are whole words or none.
use Rattle.message_flat.specs.Reads.{none_in, all_in}
use Rattle.message_flat.proofs.from_flat.words_in.Goals as goal

pub returns-then-flat-ne0 : goal.returns-then-flat-ne0
returns-then-flat-ne0 c = none_in _ c.if-flat-ne0.true

pub returns : goal.returns
returns c = all_in _ c.if-flat-ne0.false
