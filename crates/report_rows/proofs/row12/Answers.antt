-- `report_rows::row12` meets its contract: nothing is asked of a report of another view.
use mathlib.Core.Path.{sym, ◌∙◌}
use Rattle.report_views.specs.Definitions.{row12}
use Rattle.base_laws.specs.Bools.{unasked, asked}
use Rattle.report_rows.proofs.row12.Goals as goal

pub returns-then-not-of_kept : goal.returns-then-not-of_kept
unfolding row12
returns-then-not-of_kept c = let k = c.of_kept in
    unasked _ (sym k.ensures ∙ c.if-not-of_kept.true)

pub returns : goal.returns
unfolding row12
returns c = let k = c.of_kept in
    c.same_view.ensures ∙ asked _ (sym k.ensures ∙ c.if-not-of_kept.false)
