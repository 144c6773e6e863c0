-- `state_rows::sound_plan::is_met` meets its contract: by the case of the answer. Assumes nothing.
use Rattle.std.specs.Prelude.{◌≡◌, refl, Result, Ok, Err, is_ok}
use Rattle.std.proofs.Common.{◌∙◌}
use Rattle.report_views.specs.Definitions.{is_met}
use Rattle.report_views.specs.declared.Reason.{Reason}
use Rattle.plan_quorum.specs.Answer.{quorum_from}
use Rattle.state_rows.proofs.sound_plan.is_met.Goals as goal

met_is : {A : Type 0} (q : Result A Reason) → is_ok q ≡ is_met (quorum_from q)
unfolding is_met
met_is (Ok a) = refl
met_is (Err reason) = refl

pub returns : goal.returns
returns c = c.is_ok.ensures.value ∙ met_is c.args.waits
