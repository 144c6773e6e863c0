-- `plan_losses::fullest` meets its contract: its numbers and tables stay inside their ends. Assumes nothing.
use borrow.Author.Rules.{rules}
use Rattle.plan_losses.proofs.fullest.Goals as goal

pub offset_bounds-left-f : goal.offset_bounds-left-f
offset_bounds-left-f c = search rules

pub bounds-left-f : goal.bounds-left-f
bounds-left-f c = search rules

pub left_of-own-requires : goal.left_of-own-requires
left_of-own-requires c = search rules

pub returns : goal.returns
returns c = search rules
