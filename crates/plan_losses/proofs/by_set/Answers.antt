-- `plan_losses::by_set` meets its contract: its numbers and tables stay inside their ends. Assumes nothing.
use borrow.Author.Rules.{rules}
use Rattle.plan_losses.proofs.by_set.Goals as goal

pub nodes_in-requires : goal.nodes_in-requires
nodes_in-requires c = search rules

pub overflow_cast-left : goal.overflow_cast-left
overflow_cast-left c = search rules

pub offset_bounds-left-f : goal.offset_bounds-left-f
offset_bounds-left-f c = search rules

pub bounds-left-f : goal.bounds-left-f
bounds-left-f c = search rules

pub returns : goal.returns
returns c = search rules
