-- `plan_losses::passed_on` meets its contract: its numbers and tables stay inside their ends. Assumes nothing.
use borrow.Author.Rules.{rules}
use Rattle.plan_losses.proofs.passed_on.Goals as goal

pub shards-count-requires : goal.shards-count-requires
shards-count-requires c = search rules

pub subgroup-requires : goal.subgroup-requires
subgroup-requires c = search rules

pub overflow_cast-t : goal.overflow_cast-t
overflow_cast-t c = search rules

pub offset_bounds-laid-t : goal.offset_bounds-laid-t
offset_bounds-laid-t c = search rules

pub bounds-laid-t : goal.bounds-laid-t
bounds-laid-t c = search rules

pub substitute-given-requires : goal.substitute-given-requires
substitute-given-requires c = search rules

pub overflow_cast-t-then-given-lt32 : goal.overflow_cast-t-then-given-lt32
overflow_cast-t-then-given-lt32 c = search rules

pub offset_bounds-laid-t-then-given-lt32 : goal.offset_bounds-laid-t-then-given-lt32
offset_bounds-laid-t-then-given-lt32 c = search rules

pub bounds-laid-t-then-given-lt32 : goal.bounds-laid-t-then-given-lt32
bounds-laid-t-then-given-lt32 c = search rules

pub overflow_cast-given : goal.overflow_cast-given
overflow_cast-given c = search rules

pub without-rest-requires : goal.without-rest-requires
without-rest-requires c = search rules

pub sets_of-requires : goal.sets_of-requires
sets_of-requires c = search rules

pub substitute-n-requires : goal.substitute-n-requires
substitute-n-requires c = search rules

pub overflow_cast-n : goal.overflow_cast-n
overflow_cast-n c = search rules

pub with-requires : goal.with-requires
with-requires c = search rules

pub overflow_cast-masks : goal.overflow_cast-masks
overflow_cast-masks c = search rules

pub offset_bounds-masks-t : goal.offset_bounds-masks-t
offset_bounds-masks-t c = search rules

pub bounds-masks-t : goal.bounds-masks-t
bounds-masks-t c = search rules

pub offset_bounds-laid-s : goal.offset_bounds-laid-s
offset_bounds-laid-s c = search rules

pub bounds-laid-s : goal.bounds-laid-s
bounds-laid-s c = search rules

pub overflow_cast-given-then-n-lt32 : goal.overflow_cast-given-then-n-lt32
overflow_cast-given-then-n-lt32 c = search rules

pub with-requires-then-n-lt32 : goal.with-requires-then-n-lt32
with-requires-then-n-lt32 c = search rules

pub offset_bounds-masks-s : goal.offset_bounds-masks-s
offset_bounds-masks-s c = search rules

pub bounds-masks-s : goal.bounds-masks-s
bounds-masks-s c = search rules

pub returns-then-n-lt32 : goal.returns-then-n-lt32
returns-then-n-lt32 c = search rules

pub returns : goal.returns
returns c = search rules
