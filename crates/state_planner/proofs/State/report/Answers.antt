-- `state_planner::State::report` meets its contract: rows 1 and 2, then the rest. Assumes nothing.
use mathlib.Core.Path.{refl, sym, ◌∙◌}
use Rattle.base_lent.specs.Definitions.{words_in}
use Rattle.base_ids.specs.Results.{err_code}
use Rattle.report_desk.specs.Bytes.{desk_bytes}
use Rattle.report_views.specs.Definitions.{is_gathering}
use Rattle.state_planner.specs.CallLaws.{called_settings, called_desk, call_entry}
use Rattle.state_planner.specs.EventLaws.{given_refusal, given_none}
use Rattle.state_planner.specs.ReportLaws.{entry_refuses, refusal_leaves}
use Rattle.state_planner.proofs.State.report.Goals as goal

pub returns-in-Err : goal.returns-in-Err
returns-in-Err c =
    let a = c.args in
    let k = c.in-Err.ensures in
    let p = is_gathering a.self.phase in
    let f = call_entry a.settings.now (words_in a.desk.now) _ (given_refusal _ _ _ k) (err_code _ _ _ k) a.self p in
    let d = refusal_leaves a.settings.now a.self a.desk.now a.message.now _ f (err_code _ _ _ k) in record {
      outcome = c.handed_back.ensures ∙ entry_refuses a.settings.now a.self (words_in a.desk.now) a.message.now p refl _ f (err_code _ _ _ k);
      words = d.0;
      bytes = d.1;
    }

pub report_under-requires : goal.report_under-requires
report_under-requires c =
    let a = c.args in
    let e = sym (given_none _ _ _ c.in-Ok.ensures) in record { settings = called_settings a.settings.now (words_in a.desk.now) _ e refl; desk_len = desk_bytes a.desk.now (called_desk a.settings.now (words_in a.desk.now) _ e refl) }

pub returns-in-Ok : goal.returns-in-Ok
returns-in-Ok c = c.report_under.ensures
