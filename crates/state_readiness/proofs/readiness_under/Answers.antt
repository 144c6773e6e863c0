-- `state_readiness::readiness_under` meets its contract: rows 3 and 4 as every event finds them, then 22, then the rest. Assumes nothing.
use mathlib.Core.Path.{refl, sym, ◌∙◌}
use native.Mathlib.Omega.{arith}
use borrow.Author.Tests.{leb-true}
use lib.Dec.{leb}
use Rattle.base_ids.specs.Definitions.{none}
use Rattle.base_ids.specs.Results.{err_code}
use Rattle.base_lent.specs.Definitions.{words_in}
use Rattle.base_laws.specs.Bools.{and_left}
use Rattle.settings_values.specs.Definitions.{nodes}
use Rattle.state_planner.specs.EventLaws.{given_refusal, given_none}
use Rattle.state_readiness.specs.Definitions.{desk_says}
use Rattle.state_readiness.specs.Steps.{entered, entry-refused, size_refused, size_passed, readies_refused, readies_by}
use Rattle.state_readiness.proofs.readiness_under.Goals as goal

pub returns-in-Err : goal.returns-in-Err
returns-in-Err c =
    let a = c.args in
    let d = words_in a.desk.now in
    let k = sym c.in-Err.is ∙ c.enter-entry.ensures.rows in
    let e = entered a.settings.now a.x d _ c.is_gathering-in_phase.ensures (given_refusal _ _ _ k) in
    readies_refused a.settings.now (desk_says a.settings.now a.x d) _
    (entry-refused a.in_limits a.settings.now a.x d _ e (err_code _ _ _ k)) (err_code _ _ _ k) c.refuse-in-Err.ensures

pub returns-then-not-is_small : goal.returns-then-not-is_small
returns-then-not-is_small c =
    let a = c.args in
    let d = words_in a.desk.now in
    let e = entered a.settings.now a.x d none c.is_gathering-in_phase.ensures (sym (given_none _ _ _ (sym c.in-Ok.is ∙ c.enter-entry.ensures.rows))) in
    let m = c.is_small in
    readies_refused a.settings.now (desk_says a.settings.now a.x d) _
    (size_refused a.in_limits a.settings.now a.x d none e refl (sym m.ensures ∙ c.if-not-is_small.true))
    (λ z. omega arith) c.refuse.ensures

pub rows_ready-requires : goal.rows_ready-requires
rows_ready-requires c =
    let s = c in
    let m = c.is_small in
    let n = nodes s.args.settings.now in
    record { settings = (s.requires.settings, leb-true n 10 (and_left (leb n 10) s.args.in_limits (sym m.ensures ∙ c.if-not-is_small.false))); desk_len = s.requires.desk_len }

pub returns-else-not-is_small : goal.returns-else-not-is_small
returns-else-not-is_small c =
    let a = c.args in
    let d = words_in a.desk.now in
    let e = entered a.settings.now a.x d none c.is_gathering-in_phase.ensures (sym (given_none _ _ _ (sym c.in-Ok.is ∙ c.enter-entry.ensures.rows))) in
    let m = c.is_small in
    readies_by a.settings.now (desk_says a.settings.now a.x d)
    (size_passed a.in_limits a.settings.now a.x d none e refl (sym m.ensures ∙ c.if-not-is_small.false))
    c.rows_ready.ensures
