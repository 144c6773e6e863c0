-- `state_preview::preview_all` meets its contract: rows 1 and 2, then the rest. Assumes nothing.
use Rattle.base_lent.specs.Definitions.{words_in}
use Rattle.report_desk.specs.Bytes.{desk_bytes}
use Rattle.report_views.specs.Definitions.{is_gathering}
use Rattle.state_planner.specs.Definitions.{decide_refusal}
use Rattle.state_planner.specs.CallLaws.{called_settings, called_desk, call_entry}
use Rattle.state_preview.specs.Steps.{warns_refused}
use Rattle.state_preview.proofs.preview_all.Goals as goal

pub returns-then-first-ne0 : goal.returns-then-first-ne0
unfolding decide_refusal
returns-then-first-ne0 c =
    let a = c.args in
    let r = c.call_refusal-first in
    let d = words_in a.desk.now in
    warns_refused a.settings.now a.x d r.result (call_entry a.settings.now d r.result r.ensures c.if-first-ne0.true a.x (is_gathering a.x.phase)) c.if-first-ne0.true

pub preview_all_under-requires : goal.preview_all_under-requires
preview_all_under-requires c =
    let a = c.args in
    let r = c.call_refusal-first in record { settings = called_settings a.settings.now (words_in a.desk.now) r.result r.ensures c.if-first-ne0.false; desk_len = desk_bytes a.desk.now (called_desk a.settings.now (words_in a.desk.now) r.result r.ensures c.if-first-ne0.false) }

pub returns : goal.returns
returns c = c.preview_all_under.ensures
