-- Case by case.
use Rattle.c_state.proofs.refusal_of.Goals as goal

pub returns-in-Accepted : goal.returns-in-Accepted
returns-in-Accepted c = simp c.in-Accepted.is
