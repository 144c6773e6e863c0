-- `mondays_moves::Tally::take` meets its contract: after a refusal nothing is put; else the first bytes of the block are taken. Assumes nothing.
use Rattle.mondays_moves.specs.Walking.{take_front, takes_as, taken_closed}
use borrow.Author.Rules.{rules}
use Rattle.mondays_moves.proofs.Tally.take.Goals as goal

pub returns-then-refusal-ne0 : goal.returns-then-refusal-ne0
returns-then-refusal-ne0 c = taken_closed c.args.self _ _ c.if-refusal-ne0.true

pub returns : goal.returns
returns c = takes_as (take_front c.args.len c.min-end.result c.args.block.now 32768 (search rules) c.min-end.ensures) c.take_bytes.ensures
