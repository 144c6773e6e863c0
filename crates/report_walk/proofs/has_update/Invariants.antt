use Rattle.std.proofs.Common.{◌≡◌, false}
use Rattle.base_laws.specs.Definitions.{any_below}
use Rattle.report_walk.specs.Updates.{run_has}
use Rattle.report_walk.proofs.has_update.Given as goal

abbrev pub invariant-loop-j : goal.invariant-loop-j
invariant-loop-j l = any_below l.j (run_has l.b l.front l.k) ≡ false
