-- `state_planner::check_call` meets its contract: row by row. Assumes nothing.
use mathlib.Core.Path.{refl, sym, ◌∙◌}
use borrow.Author.Tests.{eq-eqb, ne_eqb}
use Rattle.base_ids.specs.Results.{ok_is, err_is}
use Rattle.state_planner.specs.CallLaws.{call_length, call_settings, call_none}
use Rattle.base_lent.specs.Definitions.{words_in}
use Rattle.base_lent.specs.Lent.{length-test}
use Rattle.state_planner.proofs.check_call.Goals as goal

pub returns-then-desk-ne65536 : goal.returns-then-desk-ne65536
returns-then-desk-ne65536 c =
    let a = c.args in
    err_is _ _ _ (call_length a.settings.now (words_in a.desk.now) (sym (length-test a.desk.now 16383) ∙ ne_eqb _ _ c.if-desk-ne65536.true)) refl

pub returns-then-not-check : goal.returns-then-not-check
returns-then-not-check c =
    let a = c.args in
    let k = c.check in
    err_is _ _ _ (call_settings a.settings.now (words_in a.desk.now) (sym (length-test a.desk.now 16383) ∙ eq-eqb _ _ c.if-desk-ne65536.false) (sym k.ensures ∙ c.if-not-check.true)) refl

pub returns : goal.returns
returns c =
    let a = c.args in
    let k = c.check in
    ok_is _ _ (sym (call_none a.settings.now (words_in a.desk.now) (sym (length-test a.desk.now 16383) ∙ eq-eqb _ _ c.if-desk-ne65536.false) (sym k.ensures ∙ c.if-not-check.false)))
