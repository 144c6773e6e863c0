-- The list is ended, or goes on. Assumes nothing.
use Rattle.std.proofs.Common.{Some, ap}
use Rattle.search_hinted.specs.Stage.{moved_close, moved_on}
use Rattle.search_hinted.proofs.ended.Goals as goal

pub returns-in-Here : goal.returns-in-Here
returns-in-Here c = moved_close c.requires.«at» c.requires.p_bound.0 c.next.ensures.0

pub returns-in-Later : goal.returns-in-Later
returns-in-Later c = moved_on c.requires.«at» c.requires.p_bound.0 c.requires.p_value (c.in_ok-ends.ensures (ap Some c.in-Later.is))
