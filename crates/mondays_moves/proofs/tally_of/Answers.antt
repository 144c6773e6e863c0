-- `mondays_moves::tally_of` meets its contract. Assumes nothing.
use Rattle.mondays_moves.specs.Walking.{tally_told}
use Rattle.mondays_moves.proofs.tally_of.Goals as goal

pub returns : goal.returns
returns c = tally_told c.args.moves.now c.args.least c.args.refusal c.min-count.result c.table_of-kept.result c.min-count.ensures c.table_of-kept.ensures
