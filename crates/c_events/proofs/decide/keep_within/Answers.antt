-- Decision by decision; a gap is small enough for the word.
use native.Mathlib.Omega.{arith}
use Rattle.c_events.proofs.decide.keep_within.Goals as goal

pub overflow_add-result : goal.overflow_add-result
overflow_add-result c = record { fits = omega (arith, c.requires.1.1) }

pub reason_word-requires : goal.reason_word-requires
reason_word-requires c = rw c.in-Wait.is at c.requires.1.0

pub returns-in-Planned : goal.returns-in-Planned
returns-in-Planned c = (simp c.in-Planned.is (omega arith), simp c.in-Planned.is c.store.ensures)

pub returns-in-Wait : goal.returns-in-Wait
returns-in-Wait c = (simp c.in-Wait.is c.reason_word.ensures, simp c.in-Wait.is)

pub returns-in-Refused : goal.returns-in-Refused
returns-in-Refused c = (simp c.in-Refused.is, simp c.in-Refused.is)
