use Prim.Native.Nat.{ℕ, ◌+◌, ◌<◌}
use Rattle.report_quick.specs.Told.{PositionTold}
use Rattle.report_quick.proofs.positions_told.Given as goal

abbrev pub invariant-loop-s : goal.invariant-loop-s
invariant-loop-s l = (j : ℕ) → j < l.s → PositionTold l.w l.view (l.count + j) j
