-- `report_rows::row13` meets its contract: nothing is asked unless both have a termination of the kept view.
use mathlib.Core.Path.{sym, ◌∙◌}
use Rattle.base_laws.specs.Bools.{and_both, and_fails_left, of_not_true, of_not_false, unasked, asked}
use Rattle.report_views.specs.Definitions.{row13}
use Rattle.report_rows.specs.Comparisons.{row13_unmade}
use Rattle.report_rows.proofs.row13.Goals as goal

pub returns-then-not-kept_terminated : goal.returns-then-not-kept_terminated
unfolding row13
returns-then-not-kept_terminated c = let k = c.kept_terminated in
    unasked _ (and_fails_left _ (sym k.ensures ∙ c.if-not-kept_terminated.true))

pub returns-then-not-t : goal.returns-then-not-t
returns-then-not-t c = let a = c.args in
    row13_unmade a.settings.now a.v a.t a.c (of_not_true a.t.made c.if-not-t.true)

pub returns : goal.returns
unfolding row13
returns c = let k = c.kept_terminated in
    let t = c.args.t in
    c.same_termination.ensures ∙ asked _ (and_both (sym k.ensures ∙ c.if-not-kept_terminated.false) (of_not_false t.made c.if-not-t.false))
