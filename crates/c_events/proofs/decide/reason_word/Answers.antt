-- Reason by reason.
use lib.Dec.{lit≤}
use Rattle.report_views.specs.Definitions.{number_of, value_of}
use Rattle.c_events.proofs.decide.reason_word.Goals as goal

pub wait_word-requires-in-NoHolder : goal.wait_word-requires-in-NoHolder
unfolding value_of
wait_word-requires-in-NoHolder c = (lit≤ tt, rw c.in-NoHolder.is at c.requires)

pub wait_word-requires-in-NoPlacement : goal.wait_word-requires-in-NoPlacement
unfolding value_of
wait_word-requires-in-NoPlacement c = (lit≤ tt, rw c.in-NoPlacement.is at c.requires)

pub returns-in-NoView : goal.returns-in-NoView
unfolding number_of value_of
returns-in-NoView c = simp c.in-NoView.is c.wait_word.ensures

pub returns-in-NoMajority : goal.returns-in-NoMajority
unfolding number_of value_of
returns-in-NoMajority c = simp c.in-NoMajority.is c.wait_word-in-NoMajority.ensures

pub returns-in-TooFew : goal.returns-in-TooFew
unfolding number_of value_of
returns-in-TooFew c = simp c.in-TooFew.is c.wait_word-in-TooFew.ensures

pub returns-in-NoHolder : goal.returns-in-NoHolder
unfolding number_of value_of
returns-in-NoHolder c = simp c.in-NoHolder.is c.wait_word-in-NoHolder.ensures

pub returns-in-NoPlacement : goal.returns-in-NoPlacement
unfolding number_of value_of
returns-in-NoPlacement c = simp c.in-NoPlacement.is c.wait_word-in-NoPlacement.ensures
