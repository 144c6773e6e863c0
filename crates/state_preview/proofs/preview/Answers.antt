-- `state_preview::preview` meets its contract: rows 1 and 2, then the rest. Assumes nothing.
use Rattle.base_laws.specs.Definitions.{has}
use Rattle.base_lent.specs.Definitions.{words_in}
use Rattle.report_desk.specs.Bytes.{desk_bytes}
use Rattle.report_views.specs.Definitions.{is_gathering}
use Rattle.state_planner.specs.CallLaws.{called_settings, called_desk, call_event}
use Rattle.state_preview.specs.Definitions.{preview_refusal}
use Rattle.state_preview.specs.Steps.{previews_refused}
use Rattle.state_preview.proofs.preview.Goals as goal

pub returns-then-first-ne0 : goal.returns-then-first-ne0
unfolding preview_refusal
returns-then-first-ne0 c =
    let a = c.args in
    let r = c.call_refusal-first in
    let d = words_in a.desk.now in
    previews_refused a.settings.now a.x d a.node.0 r.result
    (call_event a.settings.now d r.result r.ensures c.if-first-ne0.true a.x (is_gathering a.x.phase) a.node.0 (has a.x.held a.node.0)) c.if-first-ne0.true c.refuse.ensures

pub preview_under-requires : goal.preview_under-requires
preview_under-requires c =
    let a = c.args in
    let r = c.call_refusal-first in record { settings = called_settings a.settings.now (words_in a.desk.now) r.result r.ensures c.if-first-ne0.false; desk_len = desk_bytes a.desk.now (called_desk a.settings.now (words_in a.desk.now) r.result r.ensures c.if-first-ne0.false) }

pub returns : goal.returns
returns c = c.preview_under.ensures
