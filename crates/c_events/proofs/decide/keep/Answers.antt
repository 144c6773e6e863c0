-- Decision by decision.
use Rattle.c_events.proofs.decide.keep.Goals as goal

pub reason_word-requires : goal.reason_word-requires
reason_word-requires c = rw c.in-Wait.is at c.requires.1

pub returns-in-Planned : goal.returns-in-Planned
returns-in-Planned c = (simp c.in-Planned.is, simp c.in-Planned.is c.store.ensures)

pub returns-in-Wait : goal.returns-in-Wait
returns-in-Wait c = (simp c.in-Wait.is c.reason_word.ensures, simp c.in-Wait.is)

pub returns-in-Refused : goal.returns-in-Refused
returns-in-Refused c = (simp c.in-Refused.is, simp c.in-Refused.is)
