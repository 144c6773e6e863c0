use mathlib.Core.Path.{◌≡◌}
use Rattle.report_desk.specs.Ends.{ends_of}
use Rattle.report_desk.proofs.ends.ends_of.Given as goal

abbrev pub invariant-loop-j : goal.invariant-loop-j
invariant-loop-j l = l.ends ≡ ends_of l.body l.j
