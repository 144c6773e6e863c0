-- Each return is a case of what the call answers and leaves.
use mathlib.Core.Path.{sym, ap, ◌∙◌, subst}
use mathlib.Core.List.{List}
use Prim.Native.Nat.{ℕ}
use Rattle.settings_values.specs.Definitions.{Settings}
use Rattle.settings_values.specs.Laws.{settings_give}
use Rattle.base_lent.specs.Definitions.{words_in}
use Rattle.c_state.specs.Definitions.{by_planner}
use Rattle.c_state.specs.CallLaws.{desk_passes, desk_long, settings_few, settings_long, settings_front}
use Rattle.c_events.specs.Definitions.{happened}
use Rattle.c_events.specs.EventCases.{take_refused, take_done}
use native.Mathlib.Omega.{arith}
use borrow.Author.Rules.{rules}
use Rattle.c_events.proofs.take.Goals as goal

pub returns-then-refusal-ne0 : goal.returns-then-refusal-ne0
returns-then-refusal-ne0 c =
    let t = take_refused c.args.role c.args.event c.args.settings.now c.args.state.now c.args.desk.now c.args.node _ c.enter_planner-entry.ensures c.if-refusal-ne0.true in
    record { answer = t.0; bytes = t.1 }

pub slice_bounds-outcome-count : goal.slice_bounds-outcome-count
slice_bounds-outcome-count c = search rules

pub slice_bounds-outcome-start : goal.slice_bounds-outcome-start
slice_bounds-outcome-start c = omega (arith, settings_few _ _ _ _ _ c.enter_planner-entry.ensures, settings_long _ _ _ _ _ c.enter_planner-entry.ensures)

pub slice_bounds-outcome-end : goal.slice_bounds-outcome-end
slice_bounds-outcome-end c = omega (arith, settings_few _ _ _ _ _ c.enter_planner-entry.ensures, settings_long _ _ _ _ _ c.enter_planner-entry.ensures)

pub outcome-o-requires : goal.outcome-o-requires
outcome-o-requires c =
    let a = c.args in
    let e = c.enter_planner-entry.ensures in
    let p = desk_passes (by_planner a.role) a.settings.now a.state.now a.desk.now _ e c.if-refusal-ne0.false in
    record { settings = subst Settings (sym (settings_front _ _ _ _ _ e p.settings-ok)) (settings_give _ p.settings-ok); desk_len = desk_long (by_planner a.role) a.settings.now a.state.now a.desk.now _ e c.if-refusal-ne0.false }

pub keep-requires : goal.keep-requires
keep-requires c =
    let a = c.args in
    (desk_passes (by_planner a.role) a.settings.now a.state.now a.desk.now _ c.enter_planner-entry.ensures c.if-refusal-ne0.false).long

pub returns : goal.returns
returns c =
    let a = c.args in
    let e = c.enter_planner-entry.ensures in
    let p = desk_passes (by_planner a.role) a.settings.now a.state.now a.desk.now _ e c.if-refusal-ne0.false in
    let t = take_done c.args.role c.args.event c.args.settings.now c.args.state.now c.args.desk.now c.args.node _ e c.if-refusal-ne0.false _
    (c.outcome-o.ensures ∙ ap (λ (s : List ℕ). happened a.event s c.enter_planner-entry.result.state (words_in a.desk.now) a.node) (settings_front _ _ _ _ _ e p.settings-ok)) c.keep.ensures in
    record { answer = t.0; bytes = t.1 }
