-- Event by event.
use Rattle.c_events.proofs.outcome.Goals as goal

pub returns-in-Drop : goal.returns-in-Drop
returns-in-Drop c = simp c.in-Drop.is c.drop_under.ensures

pub returns-in-Fetched : goal.returns-in-Fetched
returns-in-Fetched c = simp c.in-Fetched.is c.fetched_under.ensures

pub returns-in-Prepared : goal.returns-in-Prepared
returns-in-Prepared c = simp c.in-Prepared.is c.prepared_under.ensures
