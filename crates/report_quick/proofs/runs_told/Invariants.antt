use Prim.Native.Nat.{ℕ, ◌+◌, ◌*◌, ◌≤◌, ◌<◌}
use mathlib.Core.Path.{◌≡◌}
use lib.ListN.{get_or}
use Rattle.report_quick.specs.Told.{RunTold}
use Rattle.report_quick.proofs.runs_told.Given as goal

abbrev pub invariant-loop-i : goal.invariant-loop-i
invariant-loop-i l = (l.at ≤ l.i) × (l.tag ≡ get_or l.w (4 * l.i) 0) × (l.word ≡ get_or l.w (4 * l.i + 1) 0) × ((j : ℕ) → l.at ≤ j → j < l.i → RunTold l.w l.count l.view j)
