-- `state_page::page` meets its contract: rows 1, 2 and 15, then the rest. Assumes nothing.
use Rattle.base_lent.specs.Definitions.{words_in}
use Rattle.report_desk.specs.Bytes.{desk_bytes}
use Rattle.state_page.specs.Steps.{asked_refuses, passed_settings, passed_desk, passed_under, paged_refused}
use Rattle.state_page.proofs.page.Goals as goal

pub returns-then-refusal-ne0 : goal.returns-then-refusal-ne0
returns-then-refusal-ne0 c =
    let a = c.args in
    let k = c.call_refusal-refusal in
    let d = words_in a.desk.now in
    paged_refused a.settings.now a.x d a.g k.result
    (asked_refuses a.settings.now d a.role a.g k.result k.ensures a.x c.if-refusal-ne0.true) c.if-refusal-ne0.true c.refuse.ensures

pub page_under-requires : goal.page_under-requires
page_under-requires c =
    let a = c.args in
    let k = c.call_refusal-refusal in
    let d = words_in a.desk.now in record { settings = passed_settings a.settings.now d a.role a.g k.result k.ensures c.if-refusal-ne0.false; desk_len = desk_bytes a.desk.now (passed_desk a.settings.now d a.role a.g k.result k.ensures c.if-refusal-ne0.false) }

pub returns : goal.returns
returns c =
    let a = c.args in
    let k = c.call_refusal-refusal in
    passed_under a.settings.now (words_in a.desk.now) a.role a.g k.result k.ensures c.if-refusal-ne0.false a.x c.page_under.ensures
