-- What the calls give, as the verdict and the offer that definitions speak of.
use Rattle.std.specs.Prelude.{Result, Ok, Err}
use Rattle.report_views.specs.declared.Plan.{Plan}
use Rattle.report_views.specs.declared.Reason.{Reason}
use Rattle.report_views.specs.declared.Quorum.TheVariants.{Met}
use Rattle.plan_restart.specs.declared.Verdict.{Verdict}
use Rattle.plan_restart.specs.declared.rounds.Offered.{Offered}
use Rattle.plan_restart.specs.declared.rounds.GappedPlan.{GappedPlan}
use Rattle.plan_restart.specs.Restarts.{waiting}
use Rattle.plan_restart.specs.Offers.{waiting_within}

-- a plan, or the reason why there is none
abbrev pub verdict_from : Result Plan Reason → Verdict
verdict_from (Ok plan) = record { quorum = Met; plan = plan }
verdict_from (Err reason) = waiting reason

-- a plan and its gap, or the reason why there is none
abbrev pub offered_from : Result GappedPlan Reason → Offered
offered_from (Ok reached) = record { verdict = record { quorum = Met; plan = reached.plan }; gap = reached.gap }
offered_from (Err reason) = waiting_within reason
