-- `program_blocks::intake::padded` meets its contract: the words stand over the first of the zeros. Assumes nothing.
use Rattle.base_laws.proofs.Tables.{padded_copied}
use Rattle.program_blocks.proofs.intake.padded.Goals as goal

pub returns : goal.returns
returns c = padded_copied 52 c.args.words.now _ c.requires c.copy_from_slice.ensures.after
