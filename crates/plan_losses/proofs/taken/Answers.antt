-- `plan_losses::taken` meets its contract: its numbers and tables stay inside their ends. Assumes nothing.
use borrow.Author.Rules.{rules}
use Rattle.plan_losses.proofs.taken.Goals as goal

pub fullest-f-requires : goal.fullest-f-requires
fullest-f-requires c = search rules

pub offset_bounds-rest-f : goal.offset_bounds-rest-f
offset_bounds-rest-f c = search rules

pub bounds-rest-f : goal.bounds-rest-f
bounds-rest-f c = search rules

pub without_lowest-requires : goal.without_lowest-requires
without_lowest-requires c = search rules

pub offset_bounds-rest-f-then-f-lt16 : goal.offset_bounds-rest-f-then-f-lt16
offset_bounds-rest-f-then-f-lt16 c = search rules

pub bounds-rest-f-then-f-lt16 : goal.bounds-rest-f-then-f-lt16
bounds-rest-f-then-f-lt16 c = search rules

pub with-sets-requires : goal.with-sets-requires
with-sets-requires c = search rules

pub returns : goal.returns
returns c = search rules
