-- `report_kept::renew` meets its contract: a greater view, an equal one, and a smaller one. Assumes nothing.
use mathlib.Core.Path.{ap, ap₂, ◌∙◌}
use Rattle.report_kept.specs.Definitions.{keeps}
use Rattle.report_kept.specs.Words.{made_first}
use Rattle.report_kept.specs.Laws.{renewed_greater, renewed_equal, renewed-smaller}
use Rattle.report_kept.proofs.renew.Goals as goal

pub returns-then-kept-view : goal.returns-then-kept-view
returns-then-kept-view c =
    let p = c in
    let a = p.args in
    c.keep.ensures
    ∙ ap₂ keeps c.layout_of.ensures p.termination_of-own.ensures
    ∙ renewed_greater a.settings.now a.v a.t a.c p.if-kept-view.true

pub returns-then-kept-view-2 : goal.returns-then-kept-view-2
returns-then-kept-view-2 c =
    let p = c in
    let a = p.args in
    c.keep-then-kept-view-2.ensures
    ∙ ap (keeps a.v) (c.made_first.ensures ∙ ap (made_first a.t) p.termination_of-own.ensures)
    ∙ renewed_equal a.settings.now a.v a.t a.c p.if-kept-view-2.true

pub returns : goal.returns
returns c =
    let p = c in
    let a = p.args in
    c.keep-2.ensures ∙ renewed-smaller a.settings.now a.v a.t a.c p.if-kept-view.false p.if-kept-view-2.false
