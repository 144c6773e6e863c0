use Prim.Native.Nat.{◌≤◌, ◌-◌}
use mathlib.Core.Path.{◌≡◌}
use Rattle.report_views.specs.Definitions.{runs_from}
use Rattle.report_cuts.proofs.next_run.Given as goal

abbrev pub invariant-loop-j : goal.invariant-loop-j
invariant-loop-j l = (l.i ≤ l.j) × (runs_from l.body l.s.0 l.i (l.len - l.i) ≡ runs_from l.body l.s.0 l.j (l.len - l.j))
