-- `state_readiness::readiness` meets its contract: rows 1 and 2, then the rest. Assumes nothing.
use mathlib.Core.Path.{sym, ◌∙◌}
use native.Mathlib.Omega.{arith}
use borrow.Author.Tests.{eq-eqb, ne_eqb}
use Rattle.base_lent.specs.Definitions.{words_in}
use Rattle.base_lent.specs.Lent.{length-test}
use Rattle.settings_values.specs.Laws.{settings_give}
use Rattle.state_readiness.specs.Definitions.{desk_says}
use Rattle.state_readiness.specs.Steps.{length_refused, settings_refused, readies_refused}
use Rattle.state_readiness.proofs.readiness.Goals as goal

pub returns-then-desk-ne65536 : goal.returns-then-desk-ne65536
returns-then-desk-ne65536 c =
    let a = c.args in
    let d = words_in a.desk.now in
    readies_refused a.settings.now (desk_says a.settings.now a.x d) _
    (length_refused a.in_limits a.settings.now a.x d (sym (length-test a.desk.now 16383) ∙ ne_eqb _ _ c.if-desk-ne65536.true))
    (λ z. omega arith) c.refuse.ensures

pub returns-then-not-check : goal.returns-then-not-check
returns-then-not-check c =
    let a = c.args in
    let d = words_in a.desk.now in
    let k = c.check in
    readies_refused a.settings.now (desk_says a.settings.now a.x d) _
    (settings_refused a.in_limits a.settings.now a.x d (sym (length-test a.desk.now 16383) ∙ eq-eqb _ _ c.if-desk-ne65536.false)
    (sym k.ensures ∙ c.if-not-check.true))
    (λ z. omega arith) c.refuse-then-not-check.ensures

pub readiness_under-requires : goal.readiness_under-requires
readiness_under-requires c =
    let k = c.check in
    record { settings = settings_give _ (sym k.ensures ∙ c.if-not-check.false); desk_len = c.if-desk-ne65536.false }
