-- `mondays_moves::table_of` meets its contract: the moves stand over the first of the zeros. Assumes nothing.
use Rattle.base_laws.proofs.Tables.{padded_copied}
use Rattle.mondays_moves.proofs.table_of.Goals as goal

pub returns : goal.returns
returns c = padded_copied 63 c.args.moves.now _ c.requires c.copy_from_slice.ensures.after
