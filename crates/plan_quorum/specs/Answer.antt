-- What waits 1 to 4 answer, as definitions have it.
use Rattle.std.specs.Prelude.{Result, Ok, Err}
use Rattle.report_views.specs.declared.Quorum.{Quorum}
use Rattle.report_views.specs.declared.Quorum.TheVariants.{Met, Short}
use Rattle.report_views.specs.declared.Reason.{Reason}

-- the conditions are met, or the first that fails
abbrev pub quorum_from : {A : Type 0} → Result A Reason → Quorum
quorum_from (Ok a) = Met
quorum_from (Err reason) = Short reason
