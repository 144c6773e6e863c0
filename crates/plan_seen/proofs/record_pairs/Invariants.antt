use mathlib.Core.Path.{◌≡◌}
use lib.ListN.{length}
use Rattle.report_walk.specs.Updates.{RecordsAre}
use Rattle.plan_seen.proofs.record_pairs.Given as goal

abbrev pub invariant-loop-j : goal.invariant-loop-j
invariant-loop-j l = (length l.list ≡ 256) × RecordsAre l.list l.body l.j
