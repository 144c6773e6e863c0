-- `state_planner::State::report_by` meets its contract: each way out is one of the laws of a report, from what the calls before it ensure. Assumes nothing.
use Rattle.std.proofs.lemmas.Result.{err_from_is_err_and}
use mathlib.Core.Path.{refl, sym, ◌∙◌}
use Rattle.base_ids.specs.Results.{err_code}
use Rattle.state_planner.specs.EventLaws.{given_refusal, given_none}
use Rattle.state_planner.specs.ReportLaws.{entry_gives, beside_gives, reporter_below, taken_gives}
use Rattle.base_lent.specs.Definitions.{words_in}
use Rattle.state_planner.proofs.State.report_by.Goals as goal

pub returns-in_err-rows : goal.returns-in_err-rows
returns-in_err-rows c =
    let a = c.args in
    let g = c.is_gathering-in_phase in
    let f = sym c.in_err-rows.was ∙ c.enter-entry.ensures.rows in
    let p = err_from_is_err_and c.from_residual.result c.from_residual.ensures.1 in rw (p.1, p.2) (entry_gives a.settings.now a.self (words_in a.desk.now) a.message.now g.result g.ensures _ (given_refusal _ _ _ f) (err_code _ _ _ f))

pub returns-then-refusal-ne0 : goal.returns-then-refusal-ne0
returns-then-refusal-ne0 c =
    let a = c.args in
    let g = c.is_gathering-in_phase in
    let t = c.take_in-taken in
    beside_gives a.settings.now a.self (words_in a.desk.now) a.message.now g.result g.ensures _ (sym (given_none _ _ _ (sym c.in_ok-rows.was ∙ c.enter-entry.ensures.rows))) refl t.result t.ensures c.if-refusal-ne0.true

pub after_report-requires : goal.after_report-requires
after_report-requires c =
    let s = c in
    let a = s.args in
    let t = c.take_in-taken in
    reporter_below a.settings.now a.self a.message.now t.result t.ensures c.if-refusal-ne0.false s.requires.settings

pub returns : goal.returns
returns c =
    let a = c.args in
    let g = c.is_gathering-in_phase in
    let t = c.take_in-taken in
    let y = c.after_report in
    taken_gives a.settings.now a.self (words_in a.desk.now) a.message.now g.result g.ensures _ (sym (given_none _ _ _ (sym c.in_ok-rows.was ∙ c.enter-entry.ensures.rows))) refl t.result t.ensures c.if-refusal-ne0.false y.result y.ensures
