-- `plan_losses::dealt` meets its contract: its numbers and tables stay inside their ends. Assumes nothing.
use borrow.Author.Rules.{rules}
use Rattle.plan_losses.proofs.dealt.Goals as goal

pub shards-count-requires : goal.shards-count-requires
shards-count-requires c = search rules

pub by_set-left-requires : goal.by_set-left-requires
by_set-left-requires c = search rules

pub subgroup-requires : goal.subgroup-requires
subgroup-requires c = search rules

pub need-requires : goal.need-requires
need-requires c = search rules

pub taken-rest-requires : goal.taken-rest-requires
taken-rest-requires c = search rules

pub gone-requires : goal.gone-requires
gone-requires c = search rules

pub overflow_cast-masks : goal.overflow_cast-masks
overflow_cast-masks c = search rules

pub offset_bounds-masks-s : goal.offset_bounds-masks-s
offset_bounds-masks-s c = search rules

pub bounds-masks-s : goal.bounds-masks-s
bounds-masks-s c = search rules

pub returns : goal.returns
returns c = search rules
