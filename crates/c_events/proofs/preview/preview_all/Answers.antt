-- Each return is a case of what the call answers and leaves.
use mathlib.Core.Path.{sym, subst}
use mathlib.Core.List.{List}
use Prim.Native.Nat.{ℕ}
use native.Mathlib.Omega.{arith}
use Rattle.settings_values.specs.Definitions.{Settings}
use Rattle.settings_values.specs.Laws.{settings_give}
use Rattle.base_lent.specs.Definitions.{words_in}
use Rattle.state_preview.specs.Definitions.{Warns}
use Rattle.c_state.specs.CallLaws.{settings_few, settings_long, settings_front, buffer_passes, buffer_desk, buffer_long}
use Rattle.c_events.specs.PreviewCases.{warn_not_entered, warn-refused, warn_told}
use Rattle.c_events.proofs.preview.preview_all.Goals as goal

pub returns-then-first-ne0 : goal.returns-then-first-ne0
returns-then-first-ne0 c =
    let a = c.args in
    let ok = c.lengths_ok-lengths.ensures in
    let e = c.enter_planner-entered in
    warn_not_entered a.role a.settings.now a.state.now a.desk.now a.buffer.now _ ok _ e.ensures c.if-first-ne0.true

pub slice_bounds-preview_all_under-start : goal.slice_bounds-preview_all_under-start
slice_bounds-preview_all_under-start c =
    let e = c.enter_planner-entered.ensures in
    omega (arith, settings_few _ _ _ _ _ e, settings_long _ _ _ _ _ e)

pub slice_bounds-preview_all_under-end : goal.slice_bounds-preview_all_under-end
slice_bounds-preview_all_under-end c =
    let e = c.enter_planner-entered.ensures in
    omega (arith, settings_few _ _ _ _ _ e, settings_long _ _ _ _ _ e)

pub preview_all_under-warning-requires : goal.preview_all_under-warning-requires
preview_all_under-warning-requires c =
    let a = c.args in
    let ok = c.lengths_ok-lengths.ensures in
    let e = c.enter_planner-entered in
    let h = c.if-first-ne0.false in
    let p = buffer_passes _ a.settings.now a.state.now a.desk.now a.buffer.now _ ok _ e.ensures h in
    record { settings = subst Settings (sym (settings_front _ _ _ _ _ e.ensures p.settings-ok)) (settings_give _ p.settings-ok); desk_len = buffer_desk _ a.settings.now a.state.now a.desk.now a.buffer.now _ ok _ e.ensures h }

pub returns-then-refusal-ne0 : goal.returns-then-refusal-ne0
returns-then-refusal-ne0 c =
    let a = c.args in
    let ok = c.lengths_ok-lengths.ensures in
    let e = c.enter_planner-entered in
    let h = c.if-first-ne0.false in
    let p = buffer_passes _ a.settings.now a.state.now a.desk.now a.buffer.now _ ok _ e.ensures h in
    let front = settings_front _ _ _ _ _ e.ensures p.settings-ok in
    let under = subst (λ (s : List ℕ). Warns s e.result.state (words_in a.desk.now) c.preview_all_under-warning.result) front c.preview_all_under-warning.ensures in
    warn-refused a.role a.settings.now a.state.now a.desk.now a.buffer.now _ ok _ e.ensures h _ under c.if-refusal-ne0.true

pub encode-requires : goal.encode-requires
encode-requires c =
    let a = c.args in
    let ok = c.lengths_ok-lengths.ensures in
    let e = c.enter_planner-entered in
    let h = c.if-first-ne0.false in
    omega (arith, buffer_long _ a.settings.now a.state.now a.desk.now a.buffer.now _ ok _ e.ensures h)

pub returns : goal.returns
returns c =
    let a = c.args in
    let ok = c.lengths_ok-lengths.ensures in
    let e = c.enter_planner-entered in
    let h = c.if-first-ne0.false in
    let p = buffer_passes _ a.settings.now a.state.now a.desk.now a.buffer.now _ ok _ e.ensures h in
    let front = settings_front _ _ _ _ _ e.ensures p.settings-ok in
    let under = subst (λ (s : List ℕ). Warns s e.result.state (words_in a.desk.now) c.preview_all_under-warning.result) front c.preview_all_under-warning.ensures in
    warn_told a.role a.settings.now a.state.now a.desk.now a.buffer.now _ ok _ e.ensures h _ under c.if-refusal-ne0.false _ _ c.with_length.ensures c.encode.ensures
