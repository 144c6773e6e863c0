use Prim.Native.Nat.{ℕ, ◌<◌}
use Rattle.report_quick.specs.Told.{MemberTold}
use Rattle.report_quick.proofs.members_told.Given as goal

abbrev pub invariant-loop-s : goal.invariant-loop-s
invariant-loop-s l = (j : ℕ) → j < l.s → MemberTold l.w j
