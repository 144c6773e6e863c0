-- Each return is the row that the tests on the way there pick.
use mathlib.Core.Path.{refl, sym, ap, ◌∙◌}
use borrow.Author.Tests.{eq-eqb, ne_eqb}
use Rattle.base_ids.specs.declared.Refusal.{Refusal}
use Rattle.base_ids.specs.Definitions.{or_refusal}
use Rattle.base_ids.specs.Refusals.{unless_true, unless_false}
use Rattle.base_ids.specs.Results.{err_is}
use Rattle.c_messages.specs.Turning.{flat_rows}
use Rattle.c_messages.proofs.flat.flat_rows.Goals as goal

pub returns-then-words-ne512 : goal.returns-then-words-ne512
unfolding flat_rows
returns-then-words-ne512 c = err_is _ _ _ (sym (unless_false _ _ _ (ne_eqb _ _ c.if-words-ne512.true))) refl

pub returns-then-not-check : goal.returns-then-not-check
unfolding flat_rows
returns-then-not-check c =
    err_is _ _ _
    (sym (unless_true _ _ _ (eq-eqb _ _ c.if-words-ne512.false) ∙ unless_false _ _ _ (sym c.check.ensures ∙ c.if-not-check.true)))
    refl

pub returns : goal.returns
unfolding flat_rows
returns c = c.flat_refusal.ensures
    ∙ ap (λ (r : Refusal). or_refusal r tt)
    (sym (unless_true _ _ _ (eq-eqb _ _ c.if-words-ne512.false) ∙ unless_true _ _ _ (sym c.check.ensures ∙ c.if-not-check.false)))
