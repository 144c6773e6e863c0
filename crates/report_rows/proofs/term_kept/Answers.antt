-- `report_rows::term_kept` meets its contract: nothing is asked of a report with no termination of the kept view.
use mathlib.Core.Path.{sym, ◌∙◌}
use Rattle.report_views.specs.Definitions.{term_kept}
use Rattle.base_laws.specs.Bools.{unasked, asked}
use Rattle.report_rows.proofs.term_kept.Goals as goal

pub returns-then-not-kept_terminated : goal.returns-then-not-kept_terminated
unfolding term_kept
returns-then-not-kept_terminated c = let k = c.kept_terminated in
    unasked _ (sym k.ensures ∙ c.if-not-kept_terminated.true)

pub returns : goal.returns
unfolding term_kept
returns c = let k = c.kept_terminated in
    asked _ (sym k.ensures ∙ c.if-not-kept_terminated.false)
