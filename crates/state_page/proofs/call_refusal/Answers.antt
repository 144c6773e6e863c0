-- `state_page::call_refusal` meets its contract: row by row. Assumes nothing.
use mathlib.Core.Path.{sym, ◌∙◌}
use borrow.Author.Tests.{eq-eqb, ne_eqb}
use Rattle.base_lent.specs.Lent.{length-test}
use Rattle.state_page.specs.Steps.{asked_length, asked_settings, asked_role, asked_none}
use Rattle.state_page.proofs.call_refusal.Goals as goal

pub returns-then-desk-ne65536 : goal.returns-then-desk-ne65536
returns-then-desk-ne65536 c = asked_length _ _ _ _ (sym (length-test _ 16383) ∙ ne_eqb _ _ c.if-desk-ne65536.true)

pub returns-then-not-check : goal.returns-then-not-check
returns-then-not-check c =
    let k = c.check in
    asked_settings _ _ _ _ (sym (length-test _ 16383) ∙ eq-eqb _ _ c.if-desk-ne65536.false) (sym k.ensures ∙ c.if-not-check.true)

pub returns-then-not-may_read : goal.returns-then-not-may_read
returns-then-not-may_read c =
    let m = c.may_read in
    let k = c.check in
    asked_role _ _ _ _ (sym (length-test _ 16383) ∙ eq-eqb _ _ c.if-desk-ne65536.false)
    (sym k.ensures ∙ c.if-not-check.false) (sym m.ensures ∙ c.if-not-may_read.true)

pub returns : goal.returns
returns c =
    let m = c.may_read in
    let k = c.check in
    asked_none _ _ _ _ (sym (length-test _ 16383) ∙ eq-eqb _ _ c.if-desk-ne65536.false)
    (sym k.ensures ∙ c.if-not-check.false) (sym m.ensures ∙ c.if-not-may_read.false)
