-- `state_order::call_refusal` meets its contract: row by row. Assumes nothing.
use mathlib.Core.Path.{refl, sym, ◌∙◌}
use borrow.Author.Tests.{eq-eqb, ne_eqb}
use Rattle.base_ids.specs.Refusals.{unless_true, unless_false}
use Rattle.base_ids.specs.Results.{ok_is, err_is}
use Rattle.base_lent.specs.Lent.{length-test}
use Rattle.state_planner.specs.CallLaws.{call_length, call_settings, call_none}
use Rattle.state_order.specs.Orders.{call_refuses}
use Rattle.state_order.proofs.call_refusal.Goals as goal

pub returns-then-buffer-ne512 : goal.returns-then-buffer-ne512
unfolding call_refuses
returns-then-buffer-ne512 c = err_is _ _ _ (sym (unless_false _ 1 _ (ne_eqb _ _ c.if-buffer-ne512.true))) refl

pub returns-then-desk-ne65536 : goal.returns-then-desk-ne65536
unfolding call_refuses
returns-then-desk-ne65536 c =
    err_is _ _ _
    (call_length _ _ (sym (length-test _ 16383) ∙ ne_eqb _ _ c.if-desk-ne65536.true) ∙ sym (unless_true _ 1 _ (eq-eqb _ _ c.if-buffer-ne512.false)))
    refl

pub returns-then-not-check : goal.returns-then-not-check
unfolding call_refuses
returns-then-not-check c =
    err_is _ _ _
    (call_settings _ _ (sym (length-test _ 16383) ∙ eq-eqb _ _ c.if-desk-ne65536.false) (sym c.check.ensures ∙ c.if-not-check.true)
    ∙ sym (unless_true _ 1 _ (eq-eqb _ _ c.if-buffer-ne512.false)))
    refl

pub returns : goal.returns
unfolding call_refuses
returns c =
    ok_is _ _
    (sym (call_none _ _ (sym (length-test _ 16383) ∙ eq-eqb _ _ c.if-desk-ne65536.false) (sym c.check.ensures ∙ c.if-not-check.false)
    ∙ sym (unless_true _ 1 _ (eq-eqb _ _ c.if-buffer-ne512.false))))
