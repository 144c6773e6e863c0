-- Each return is a case of what the call answers and leaves.
use mathlib.Core.Path.{sym, ap, ◌∙◌, subst}
use mathlib.Core.List.{List}
use Prim.Native.Nat.{ℕ, ◌-◌}
use native.Mathlib.Omega.{arith}
use lib.ListN.{take, drop}
use Rattle.base_lent.specs.Definitions.{words_in}
use Rattle.settings_values.specs.Definitions.{Settings}
use Rattle.settings_values.specs.Laws.{settings_give}
use Rattle.state_planner.specs.Definitions.{reported, desk_left}
use Rattle.c_state.specs.Definitions.{by_planner}
use Rattle.c_state.specs.CallLaws.{desk_passes, desk_long, settings_few, settings_long, settings_front}
use Rattle.c_events.specs.ReportCases.{report_not_entered, report_done}
use Rattle.c_events.proofs.report.report.Goals as goal

pub returns-then-refusal-ne0 : goal.returns-then-refusal-ne0
returns-then-refusal-ne0 c =
    let a = c.args in
    let t = report_not_entered a.role a.settings.now a.state.now a.desk.now a.message.now _ c.enter_planner-entry.ensures c.if-refusal-ne0.true in
    record { answer = t.0; state = t.1.0; desk = t.1.1 }

pub slice_bounds-report_under-end : goal.slice_bounds-report_under-end
slice_bounds-report_under-end c =
    let e = c.enter_planner-entry.ensures in
    omega (arith, settings_few _ _ _ _ _ e, settings_long _ _ _ _ _ e)

pub report_under-o-requires : goal.report_under-o-requires
report_under-o-requires c =
    let a = c.args in
    let e = c.enter_planner-entry.ensures in
    let h = c.if-refusal-ne0.false in
    let p = desk_passes (by_planner a.role) a.settings.now a.state.now a.desk.now _ e h in
    record { settings = subst Settings (sym (settings_front _ _ _ _ _ e p.settings-ok)) (settings_give _ p.settings-ok); desk_len = desk_long (by_planner a.role) a.settings.now a.state.now a.desk.now _ e h }

pub keep-requires : goal.keep-requires
keep-requires c =
    let a = c.args in
    let e = c.enter_planner-entry.ensures in
    let h = c.if-refusal-ne0.false in
    let p = desk_passes (by_planner a.role) a.settings.now a.state.now a.desk.now _ e h in
    p.long

pub returns : goal.returns
returns c =
    let a = c.args in
    let e = c.enter_planner-entry.ensures in
    let h = c.if-refusal-ne0.false in
    let p = desk_passes (by_planner a.role) a.settings.now a.state.now a.desk.now _ e h in
    let x = c.enter_planner-entry.result.state in
    let w = c.words_of-lent in
    let looked = take (w.result.len - 0) (drop 0 w.result.table) in
    let front = settings_front _ _ _ _ _ e p.settings-ok in
    let u = c.report_under-o.ensures in
    let t = report_done a.role a.settings.now a.state.now a.desk.now a.message.now _ e h looked w.ensures.front _
    (u.outcome ∙ ap (λ (s : List ℕ). reported s x (words_in a.desk.now) looked) front) c.keep.ensures
    (u.bytes ∙ ap (λ (s : List ℕ). desk_left s x a.desk.now looked) front) in
    record { answer = t.0; state = t.1.0; desk = t.1.1 }
