-- The value beside a decision's number.
use Rattle.std.specs.Prelude.{ℕ}
use Rattle.report_views.specs.Definitions.{value_of}
use Rattle.state_planner.specs.declared.Decision.{Decision}
use Rattle.state_planner.specs.declared.Decision.TheVariants.{Planned, Wait, Refused}

-- the shard or subgroup that a decision names, or 0
abbrev pub decision_value : Decision → ℕ
decision_value Planned = 0
decision_value (Wait reason) = value_of reason
decision_value (Refused r) = 0
