-- `program_blocks::words_of` meets its contract: the words are stored in a part of the table that is as long as they are. Assumes nothing.
use Rattle.program_blocks.specs.Held.{part-holds}
use Rattle.program_blocks.proofs.words_of.Goals as goal

pub returns : goal.returns
returns c = part-holds c.args.bytes.now c.requires _ c.decode.ensures
