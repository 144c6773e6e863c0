-- `plan_losses::placed_in` meets its contract: its numbers and tables stay inside their ends. Assumes nothing.
use borrow.Author.Rules.{rules}
use Rattle.plan_losses.proofs.placed_in.Goals as goal

pub shards-count-requires : goal.shards-count-requires
shards-count-requires c = search rules

pub subgroup-requires : goal.subgroup-requires
subgroup-requires c = search rules

pub overflow_cast-used : goal.overflow_cast-used
overflow_cast-used c = search rules

pub offset_bounds-laid-s : goal.offset_bounds-laid-s
offset_bounds-laid-s c = search rules

pub bounds-laid-s : goal.bounds-laid-s
bounds-laid-s c = search rules

pub returns : goal.returns
returns c = search rules
