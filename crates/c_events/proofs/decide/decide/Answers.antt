-- Each return is a case of what the call answers and leaves.
use mathlib.Core.Path.{sym, subst}
use mathlib.Core.List.{List}
use Prim.Native.Nat.{ℕ}
use Rattle.settings_values.specs.Definitions.{Settings}
use Rattle.settings_values.specs.Laws.{settings_give}
use Rattle.state_planner.specs.Definitions.{Decides}
use Rattle.base_lent.specs.Definitions.{words_in}
use Rattle.c_state.specs.Definitions.{by_planner}
use Rattle.c_state.specs.CallLaws.{desk_passes, desk_long, settings_few, settings_long, settings_front}
use Rattle.c_events.specs.DecideCases.{decision_small, decide_refused, decide_done}
use native.Mathlib.Omega.{arith}
use Rattle.c_events.proofs.decide.decide.Goals as goal

pub returns-then-refusal-ne0 : goal.returns-then-refusal-ne0
returns-then-refusal-ne0 c = decide_refused _ _ _ _ _ c.enter_planner-entry.ensures c.if-refusal-ne0.true

pub slice_bounds-decide_under-start : goal.slice_bounds-decide_under-start
slice_bounds-decide_under-start c = omega (arith, settings_few _ _ _ _ _ c.enter_planner-entry.ensures, settings_long _ _ _ _ _ c.enter_planner-entry.ensures)

pub slice_bounds-decide_under-end : goal.slice_bounds-decide_under-end
slice_bounds-decide_under-end c = omega (arith, settings_few _ _ _ _ _ c.enter_planner-entry.ensures, settings_long _ _ _ _ _ c.enter_planner-entry.ensures)

pub decide_under-o-requires : goal.decide_under-o-requires
decide_under-o-requires c =
    let a = c.args in
    let e = c.enter_planner-entry.ensures in
    let p = desk_passes (by_planner a.role) a.settings.now a.state.now a.desk.now _ e c.if-refusal-ne0.false in
    record { settings = subst Settings (sym (settings_front _ _ _ _ _ e p.settings-ok)) (settings_give _ p.settings-ok); desk_len = desk_long (by_planner a.role) a.settings.now a.state.now a.desk.now _ e c.if-refusal-ne0.false }

pub keep-requires : goal.keep-requires
keep-requires c =
    let a = c.args in
    let e = c.enter_planner-entry.ensures in
    let p = desk_passes (by_planner a.role) a.settings.now a.state.now a.desk.now _ e c.if-refusal-ne0.false in
    (p.long, decision_small _ _ _ _ p.settings-ok (subst (λ (s : List ℕ). Decides s c.enter_planner-entry.result.state (words_in a.desk.now) c.decide_under-o.result) (settings_front _ _ _ _ _ e p.settings-ok) c.decide_under-o.ensures))

pub returns : goal.returns
returns c =
    let a = c.args in
    let e = c.enter_planner-entry.ensures in
    let p = desk_passes (by_planner a.role) a.settings.now a.state.now a.desk.now _ e c.if-refusal-ne0.false in
    decide_done _ _ _ _ _ e c.if-refusal-ne0.false _
    (subst (λ (s : List ℕ). Decides s c.enter_planner-entry.result.state (words_in a.desk.now) c.decide_under-o.result) (settings_front _ _ _ _ _ e p.settings-ok) c.decide_under-o.ensures)
    _ _ c.keep.ensures.0 c.keep.ensures.1
