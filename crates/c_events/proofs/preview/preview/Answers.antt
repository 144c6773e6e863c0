-- Each return is a case of what the call answers and leaves.
use mathlib.Core.Path.{sym, subst}
use mathlib.Core.List.{List}
use Prim.Native.Nat.{ℕ}
use native.Mathlib.Omega.{arith}
use Rattle.settings_values.specs.Definitions.{Settings}
use Rattle.settings_values.specs.Laws.{settings_give}
use Rattle.base_lent.specs.Definitions.{words_in}
use Rattle.state_preview.specs.Definitions.{Previews}
use Rattle.c_state.specs.CallLaws.{settings_few, settings_long, settings_front, buffer_passes, buffer_desk, buffer_long}
use Rattle.c_events.specs.PreviewCases.{preview_small, preview_refused, preview_done}
use Rattle.c_events.proofs.preview.preview.Goals as goal

pub returns-then-refusal-ne0 : goal.returns-then-refusal-ne0
returns-then-refusal-ne0 c =
    let a = c.args in
    let ok = c.lengths_ok-lengths.ensures in
    let e = c.enter_planner-entry in
    preview_refused a.role a.settings.now a.state.now a.desk.now a.buffer.now _ ok _ e.ensures a.node c.if-refusal-ne0.true

pub slice_bounds-preview_under-start : goal.slice_bounds-preview_under-start
slice_bounds-preview_under-start c =
    let e = c.enter_planner-entry.ensures in
    omega (arith, settings_few _ _ _ _ _ e, settings_long _ _ _ _ _ e)

pub slice_bounds-preview_under-end : goal.slice_bounds-preview_under-end
slice_bounds-preview_under-end c =
    let e = c.enter_planner-entry.ensures in
    omega (arith, settings_few _ _ _ _ _ e, settings_long _ _ _ _ _ e)

pub preview_under-o-requires : goal.preview_under-o-requires
preview_under-o-requires c =
    let a = c.args in
    let ok = c.lengths_ok-lengths.ensures in
    let e = c.enter_planner-entry in
    let h = c.if-refusal-ne0.false in
    let p = buffer_passes _ a.settings.now a.state.now a.desk.now a.buffer.now _ ok _ e.ensures h in
    record { settings = subst Settings (sym (settings_front _ _ _ _ _ e.ensures p.settings-ok)) (settings_give _ p.settings-ok); desk_len = buffer_desk _ a.settings.now a.state.now a.desk.now a.buffer.now _ ok _ e.ensures h }

pub keep-requires : goal.keep-requires
keep-requires c =
    let a = c.args in
    let ok = c.lengths_ok-lengths.ensures in
    let e = c.enter_planner-entry in
    let h = c.if-refusal-ne0.false in
    let p = buffer_passes _ a.settings.now a.state.now a.desk.now a.buffer.now _ ok _ e.ensures h in
    let front = settings_front _ _ _ _ _ e.ensures p.settings-ok in
    let under = subst (λ (s : List ℕ). Previews s e.result.state (words_in a.desk.now) a.node c.preview_under-o.result) front c.preview_under-o.ensures in
    (buffer_long _ a.settings.now a.state.now a.desk.now a.buffer.now _ ok _ e.ensures h, preview_small _ _ _ a.node _ p.settings-ok under)

pub returns : goal.returns
returns c =
    let a = c.args in
    let ok = c.lengths_ok-lengths.ensures in
    let e = c.enter_planner-entry in
    let h = c.if-refusal-ne0.false in
    let p = buffer_passes _ a.settings.now a.state.now a.desk.now a.buffer.now _ ok _ e.ensures h in
    let front = settings_front _ _ _ _ _ e.ensures p.settings-ok in
    let under = subst (λ (s : List ℕ). Previews s e.result.state (words_in a.desk.now) a.node c.preview_under-o.result) front c.preview_under-o.ensures in
    preview_done a.role a.settings.now a.state.now a.desk.now a.buffer.now _ ok _ e.ensures a.node h _ under _ _ c.keep.ensures.0 c.keep.ensures.1
