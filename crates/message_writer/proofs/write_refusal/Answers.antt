-- `message_writer::write_refusal` meets its contract: each return is the row that the tests on the way there pick.
-- Assumes nothing.
use mathlib.Core.Path.{refl, sym, ap, ◌∙◌}
use borrow.Author.Tests.{eq-eqb, ne_eqb}
use Rattle.base_ids.specs.declared.Refusal.{Refusal}
use Rattle.base_ids.specs.Definitions.{or_refusal}
use Rattle.base_ids.specs.Refusals.{unless_true, unless_false}
use Rattle.base_ids.specs.Results.{err_is}
use Rattle.settings_values.specs.Laws.{settings_give}
use Rattle.message_format.specs.Messages.{write_refusal}
use Rattle.message_writer.proofs.write_refusal.Goals as goal

pub returns-then-buffer-ne512 : goal.returns-then-buffer-ne512
unfolding write_refusal
returns-then-buffer-ne512 c = err_is _ _ _ (sym (unless_false _ _ _ (ne_eqb _ _ c.if-buffer-ne512.true))) refl

pub returns-then-not-check : goal.returns-then-not-check
unfolding write_refusal
returns-then-not-check c =
    err_is _ _ _
    (sym (unless_true _ _ _ (eq-eqb _ _ c.if-buffer-ne512.false) ∙ unless_false _ _ _ (sym c.check.ensures ∙ c.if-not-check.true)))
    refl

pub contents_refusal-requires : goal.contents_refusal-requires
contents_refusal-requires c =
    settings_give _ (sym c.check.ensures ∙ c.if-not-check.false)

pub returns : goal.returns
unfolding write_refusal
returns c =
    c.contents_refusal.ensures
    ∙ ap (λ (r : Refusal). or_refusal r tt)
    (sym (unless_true _ _ _ (eq-eqb _ _ c.if-buffer-ne512.false) ∙ unless_true _ _ _ (sym c.check.ensures ∙ c.if-not-check.false)))
