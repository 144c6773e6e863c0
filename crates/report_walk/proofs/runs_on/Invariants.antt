use Rattle.std.proofs.Common.{◌≡◌, ◌-◌}
use Rattle.report_walk.specs.Seen.{before_at, runs_noted, RunsOn}
use Rattle.report_walk.proofs.runs_on.Given as goal

abbrev pub invariant-loop-i : goal.invariant-loop-i
invariant-loop-i l =
    RunsOn l.b l.first l.view l.i × (l.since ≡ before_at l.b l.first l.i) × (l.last ≡ runs_noted l.b l.initial.last l.first (l.i - l.first))
