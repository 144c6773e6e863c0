-- `state_planner::State::decide` meets its contract: rows 1 and 2, then the rest. Assumes nothing.
use mathlib.Core.Path.{refl, sym, ap, ◌∙◌}
use Rattle.base_ids.specs.declared.Refusal.{Refusal}
use Rattle.base_ids.specs.Definitions.{accepted}
use Rattle.base_ids.specs.Results.{err_code}
use Rattle.state_planner.specs.declared.Decision.{Decision}
use Rattle.report_views.specs.Definitions.{is_gathering}
use Rattle.state_planner.specs.Definitions.{decide_refusal, still}
use Rattle.state_planner.specs.DecideLaws.{decides_refused}
use Rattle.state_planner.specs.CallLaws.{called_settings, called_desk, call_entry}
use Rattle.state_planner.specs.EventLaws.{given_refusal, given_refuses, given_none}
use Rattle.base_lent.specs.Definitions.{words_in}
use Rattle.report_desk.specs.Bytes.{desk_bytes}
use Rattle.state_planner.proofs.State.decide.Goals as goal

pub decide_under-requires : goal.decide_under-requires
decide_under-requires c =
    let a = c.args in
    let e = sym (given_none _ _ _ c.in-Ok.ensures) in record { settings = called_settings a.settings.now (words_in a.desk.now) _ e refl; desk_len = desk_bytes a.desk.now (called_desk a.settings.now (words_in a.desk.now) _ e refl) }

pub returns-in-Ok : goal.returns-in-Ok
returns-in-Ok c = c.decide_under.ensures

pub returns-in-Err : goal.returns-in-Err
unfolding decide_refusal
returns-in-Err c =
    let a = c.args in
    let k = c.in-Err.ensures in
    let f = call_entry a.settings.now (words_in a.desk.now) _ (given_refusal _ _ _ k) (err_code _ _ _ k) a.self (is_gathering a.self.phase) in
    decides_refused a.settings.now a.self (words_in a.desk.now) _ (sym (ap accepted f) ∙ given_refuses _ _ _ k) (ap (λ (q : Refusal). still a.self (Decision.Refused q)) f)
