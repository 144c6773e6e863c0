-- `plan_losses::instead` meets its contract: its numbers and tables stay inside their ends. Assumes nothing.
use borrow.Author.Rules.{rules}
use Rattle.plan_losses.proofs.instead.Goals as goal

pub placed_in-requires : goal.placed_in-requires
placed_in-requires c = search rules

pub minus-idle-requires : goal.minus-idle-requires
minus-idle-requires c = search rules

pub shards-count-requires : goal.shards-count-requires
shards-count-requires c = search rules

pub subgroup-requires : goal.subgroup-requires
subgroup-requires c = search rules

pub overflow_cast-s : goal.overflow_cast-s
overflow_cast-s c = search rules

pub offset_bounds-laid-s : goal.offset_bounds-laid-s
offset_bounds-laid-s c = search rules

pub bounds-laid-s : goal.bounds-laid-s
bounds-laid-s c = search rules

pub has-requires : goal.has-requires
has-requires c = search rules

pub overflow_cast-s-then-has : goal.overflow_cast-s-then-has
overflow_cast-s-then-has c = search rules

pub relieved-requires : goal.relieved-requires
relieved-requires c = search rules

pub returns-then-has : goal.returns-then-has
returns-then-has c = search rules

pub returns : goal.returns
returns c = search rules
