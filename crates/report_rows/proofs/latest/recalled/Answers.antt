-- `report_rows::latest::recalled` meets its contract: one test after the other. Assumes nothing.
use mathlib.Core.Path.{sym, ◌∙◌}
use Rattle.report_rows.specs.Laws.{not_known, not_held, is_held}
use Rattle.report_rows.proofs.latest.recalled.Goals as goal

pub returns-then-not-known_or_none : goal.returns-then-not-known_or_none
returns-then-not-known_or_none c =
    let a = c.args in
    let k = c.known_or_none in
    not_known a.settings.now a.number.0 a.held a.reported.0 a.view.0 a.node.0
    (sym k.ensures ∙ c.if-not-known_or_none.true)

pub returns-then-not-has : goal.returns-then-not-has
returns-then-not-has c =
    let a = c.args in
    let k = c.known_or_none in
    let h = c.has in
    not_held a.settings.now a.number.0 a.held a.reported.0 a.view.0 a.node.0
    (sym k.ensures ∙ c.if-not-known_or_none.false) (sym h.ensures ∙ c.if-not-has.true)

pub returns : goal.returns
returns c =
    let a = c.args in
    let k = c.known_or_none in
    let h = c.has in
    c.from_to.ensures
    ∙ is_held a.settings.now a.number.0 a.held a.reported.0 a.view.0 a.node.0
    (sym k.ensures ∙ c.if-not-known_or_none.false) (sym h.ensures ∙ c.if-not-has.false)
