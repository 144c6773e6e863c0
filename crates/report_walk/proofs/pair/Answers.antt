-- `report_walk::pair` meets its contract.
use Rattle.std.proofs.Common.{rules}
use Rattle.report_walk.specs.Pairs.{pair_of}
use borrow.Author.Rules.{rules}
use Rattle.report_walk.proofs.pair.Goals as goal

pub returns : goal.returns
unfolding pair_of
returns c = search rules
