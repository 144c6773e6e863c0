-- `state_planner::State::check` meets its contract: rows 1 and 2, then the rest. Assumes nothing.
use Rattle.std.proofs.lemmas.Result.{err_from_is_err_and}
use mathlib.Core.Bool.{true}
use mathlib.Core.Path.{refl, sym}
use Rattle.base_ids.specs.Results.{err_is, err_code}
use Rattle.state_planner.specs.Definitions.{check_refusal}
use Rattle.state_planner.specs.CallLaws.{called_settings, called_desk, call_entry}
use Rattle.state_planner.specs.EventLaws.{given_refusal, given_refuses, given_none}
use Rattle.base_lent.specs.Definitions.{words_in}
use Rattle.report_desk.specs.Bytes.{desk_bytes}
use Rattle.state_planner.proofs.State.check.Goals as goal

pub returns-in_err-check_call : goal.returns-in_err-check_call
unfolding check_refusal
returns-in_err-check_call c =
    let a = c.args in
    let k = c.in_err-check_call.ensures in
    let p = err_from_is_err_and c.from_residual.result c.from_residual.ensures.1 in rw (p.1, p.2) (err_is _ _ _ (call_entry a.settings.now (words_in a.desk.now) _ (given_refusal _ _ _ k) (err_code _ _ _ k) a.self true) (given_refuses _ _ _ k))

pub check_under-requires : goal.check_under-requires
check_under-requires c =
    let a = c.args in
    let e = sym (given_none _ _ _ c.in_ok-check_call.ensures) in record { settings = called_settings a.settings.now (words_in a.desk.now) _ e refl; desk_len = desk_bytes a.desk.now (called_desk a.settings.now (words_in a.desk.now) _ e refl) }

pub returns : goal.returns
returns c = c.check_under.ensures
