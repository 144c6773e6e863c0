-- `plan_losses::substitute` meets its contract: its numbers and tables stay inside their ends. Assumes nothing.
use borrow.Author.Rules.{rules}
use Rattle.plan_losses.proofs.substitute.Goals as goal

pub nodes-count-requires : goal.nodes-count-requires
nodes-count-requires c = search rules

pub overflow_cast-n : goal.overflow_cast-n
overflow_cast-n c = search rules

pub has-requires : goal.has-requires
has-requires c = search rules

pub set_of-requires : goal.set_of-requires
set_of-requires c = search rules

pub wide-requires : goal.wide-requires
wide-requires c = search rules

pub has-requires-then-has : goal.has-requires-then-has
has-requires-then-has c = search rules

pub returns-then-not-has : goal.returns-then-not-has
returns-then-not-has c = search rules

pub returns : goal.returns
returns c = search rules
