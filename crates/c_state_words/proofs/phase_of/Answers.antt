-- Arm by arm.
use Rattle.c_state_words.specs.Definitions.{phase_of}
use native.Mathlib.Omega.{arith}
use borrow.Author.Tests.{ne_eqb}
use Rattle.c_state_words.proofs.phase_of.Goals as goal

pub returns-in-0 : goal.returns-in-0
unfolding phase_of
returns-in-0 c = simp c.in-0.is

pub returns-in-1 : goal.returns-in-1
unfolding phase_of
returns-in-1 c = simp c.in-1.is

pub returns-in-2 : goal.returns-in-2
unfolding phase_of
returns-in-2 c = simp c.in-2.is

pub returns-in_default : goal.returns-in_default
unfolding phase_of
returns-in_default c =
    let n = c.args.n in
    simp (ne_eqb n 0 (λ z. omega (arith, c.in_default, z)), ne_eqb n 1 (λ z. omega (arith, c.in_default, z)), ne_eqb n 2 (λ z. omega (arith, c.in_default, z)))
