-- Each return is a case of what the call answers.
use mathlib.Core.Path.{sym, ap, ◌∙◌, subst}
use mathlib.Core.List.{List}
use Prim.Native.Nat.{ℕ}
use Rattle.settings_values.specs.Definitions.{Settings}
use Rattle.settings_values.specs.Laws.{settings_give}
use Rattle.base_ids.specs.Definitions.{none}
use Rattle.state_planner.specs.Definitions.{check_refusal}
use Rattle.state_planner.specs.EventLaws.{given_refusal, given_none}
use Rattle.base_lent.specs.Definitions.{words_in}
use Rattle.c_state.specs.Definitions.{by_planner}
use Rattle.c_state.specs.CallLaws.{desk_passes, desk_long, settings_few, settings_long, settings_front}
use Rattle.c_events.specs.EventCases.{check_refused, check_done}
use native.Mathlib.Omega.{arith}
use borrow.Author.Rules.{rules}
use Rattle.c_events.proofs.check_state.Goals as goal

pub returns-then-refusal-ne0 : goal.returns-then-refusal-ne0
returns-then-refusal-ne0 c = check_refused _ _ _ _ _ c.enter_planner-lent.ensures c.if-refusal-ne0.true

pub slice_bounds-check_under-count : goal.slice_bounds-check_under-count
slice_bounds-check_under-count c = search rules

pub slice_bounds-check_under-start : goal.slice_bounds-check_under-start
slice_bounds-check_under-start c = omega (arith, settings_few _ _ _ _ _ c.enter_planner-lent.ensures, settings_long _ _ _ _ _ c.enter_planner-lent.ensures)

pub slice_bounds-check_under-end : goal.slice_bounds-check_under-end
slice_bounds-check_under-end c = omega (arith, settings_few _ _ _ _ _ c.enter_planner-lent.ensures, settings_long _ _ _ _ _ c.enter_planner-lent.ensures)

pub check_under-requires : goal.check_under-requires
check_under-requires c =
    let a = c.args in
    let e = c.enter_planner-lent.ensures in
    let p = desk_passes (by_planner a.role) a.settings.now a.state.now a.desk.now _ e c.if-refusal-ne0.false in
    record { settings = subst Settings (sym (settings_front _ _ _ _ _ e p.settings-ok)) (settings_give _ p.settings-ok); desk_len = desk_long (by_planner a.role) a.settings.now a.state.now a.desk.now _ e c.if-refusal-ne0.false }

pub returns-in-Ok : goal.returns-in-Ok
returns-in-Ok c =
    let a = c.args in
    let e = c.enter_planner-lent.ensures in
    let p = desk_passes (by_planner a.role) a.settings.now a.state.now a.desk.now _ e c.if-refusal-ne0.false in
    check_done _ _ _ _ _ e c.if-refusal-ne0.false none
    (sym (given_none _ _ _ c.in-Ok.ensures) ∙ ap (λ (s : List ℕ). check_refusal s c.enter_planner-lent.result.state (words_in a.desk.now)) (settings_front _ _ _ _ _ e p.settings-ok))

pub returns-in-Err : goal.returns-in-Err
returns-in-Err c =
    let a = c.args in
    let e = c.enter_planner-lent.ensures in
    let p = desk_passes (by_planner a.role) a.settings.now a.state.now a.desk.now _ e c.if-refusal-ne0.false in
    check_done _ _ _ _ _ e c.if-refusal-ne0.false _
    (given_refusal _ _ _ c.in-Err.ensures ∙ ap (λ (s : List ℕ). check_refusal s c.enter_planner-lent.result.state (words_in a.desk.now)) (settings_front _ _ _ _ _ e p.settings-ok))
