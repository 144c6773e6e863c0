-- `state_planner::State::prepared` meets its contract: rows 1 and 2, then the rest. Assumes nothing.
use mathlib.Core.Bool.{not, ◌&&◌}
use Rattle.base_laws.specs.Definitions.{has}
use mathlib.Core.Path.{refl, sym, ◌∙◌}
use Rattle.base_ids.specs.Results.{err_code}
use Rattle.report_views.specs.Definitions.{is_preparing}
use Rattle.state_planner.specs.Definitions.{prepared_refusal, after_prepared, prepared_of}
use Rattle.state_planner.specs.CallLaws.{called_settings, called_desk, call_event}
use Rattle.state_planner.specs.EventLaws.{settles_refused, given_refusal, given_none}
use Rattle.base_lent.specs.Definitions.{words_in}
use Rattle.report_desk.specs.Bytes.{desk_bytes}
use Rattle.state_planner.proofs.State.prepared.Goals as goal

pub returns-in-Err : goal.returns-in-Err
unfolding prepared_of prepared_refusal
returns-in-Err c =
    let a = c.args in
    let k = c.in-Err.ensures in
    c.handed_back.ensures
    ∙ settles_refused
    (call_event a.settings.now (words_in a.desk.now) _ (given_refusal _ _ _ k) (err_code _ _ _ k) a.self (is_preparing a.self.phase) a.node.0 (has a.self.held a.node.0 && not (has a.self.prepared a.node.0)))
    a.self (after_prepared a.self a.node.0) (err_code _ _ _ k)

pub prepared_under-requires : goal.prepared_under-requires
prepared_under-requires c =
    let a = c.args in
    let e = sym (given_none _ _ _ c.in-Ok.ensures) in record { settings = called_settings a.settings.now (words_in a.desk.now) _ e refl; desk_len = desk_bytes a.desk.now (called_desk a.settings.now (words_in a.desk.now) _ e refl) }

pub returns-in-Ok : goal.returns-in-Ok
returns-in-Ok c = c.prepared_under.ensures
