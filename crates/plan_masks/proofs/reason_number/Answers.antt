-- `plan_masks::reason_number` meets its contract, reason by reason.
use Rattle.report_views.specs.Definitions.{number_of}
use Rattle.plan_masks.proofs.reason_number.Goals as goal

pub returns-in-NoView : goal.returns-in-NoView
unfolding number_of
returns-in-NoView c = simp c.in-NoView.is

pub returns-in-NoMajority : goal.returns-in-NoMajority
unfolding number_of
returns-in-NoMajority c = simp c.in-NoMajority.is

pub returns-in-TooFew : goal.returns-in-TooFew
unfolding number_of
returns-in-TooFew c = simp c.in-TooFew.is

pub returns-in-NoHolder : goal.returns-in-NoHolder
unfolding number_of
returns-in-NoHolder c = simp c.in-NoHolder.is

pub returns-in-NoPlacement : goal.returns-in-NoPlacement
unfolding number_of
returns-in-NoPlacement c = simp c.in-NoPlacement.is
