-- `plan_losses::gone` meets its contract: its numbers and tables stay inside their ends. Assumes nothing.
use borrow.Author.Rules.{rules}
use Rattle.plan_losses.proofs.gone.Goals as goal

pub offset_bounds-left-f : goal.offset_bounds-left-f
offset_bounds-left-f c = search rules

pub bounds-left-f : goal.bounds-left-f
bounds-left-f c = search rules

pub offset_bounds-rest-f : goal.offset_bounds-rest-f
offset_bounds-rest-f c = search rules

pub bounds-rest-f : goal.bounds-rest-f
bounds-rest-f c = search rules

pub minus-mask-requires : goal.minus-mask-requires
minus-mask-requires c = search rules

pub returns : goal.returns
returns c = search rules
