-- Move by move.
use native.Mathlib.Omega.{arith}
use Rattle.c_events.proofs.game.lead_word.Goals as goal

pub overflow_add-result : goal.overflow_add-result
overflow_add-result c =
    let l = rw c.in-Taking.is at c.requires in
    omega (arith, l)

pub returns-in-Taking : goal.returns-in-Taking
returns-in-Taking c = simp c.in-Taking.is
