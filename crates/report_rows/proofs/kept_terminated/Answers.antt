-- `report_rows::kept_terminated` meets its contract, test by test.
use mathlib.Core.Path.{sym, ◌∙◌}
use Rattle.base_laws.specs.Bools.{and_fails_left, and_rest}
use Rattle.report_rows.proofs.kept_terminated.Goals as goal

pub returns-then-not-of_kept : goal.returns-then-not-of_kept
returns-then-not-of_kept c = let k = c.of_kept in
    sym (and_fails_left _ (sym k.ensures ∙ c.if-not-of_kept.true))

pub returns : goal.returns
returns c = let k = c.of_kept in
    c.terminated.ensures ∙ and_rest _ (sym k.ensures ∙ c.if-not-of_kept.false)
