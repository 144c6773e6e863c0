-- `plan_losses::nodes_in` meets its contract: its numbers and tables stay inside their ends. Assumes nothing.
use borrow.Author.Rules.{rules}
use Rattle.plan_losses.proofs.nodes_in.Goals as goal

pub nodes-count-requires : goal.nodes-count-requires
nodes-count-requires c = search rules

pub held_of-requires : goal.held_of-requires
held_of-requires c = search rules

pub overflow_cast-n : goal.overflow_cast-n
overflow_cast-n c = search rules

pub with-mask-requires : goal.with-mask-requires
with-mask-requires c = search rules

pub returns : goal.returns
returns c = search rules
