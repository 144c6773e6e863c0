-- Each return is a case of what the call answers and leaves.
use mathlib.Core.Path.{refl, sym, ap, ◌∙◌, subst}
use mathlib.Core.List.{List}
use Prim.Native.Nat.{ℕ}
use lib.ListN.{replicate}
use Rattle.message_format.specs.Messages.{as_written}
use Rattle.settings_values.specs.Definitions.{Settings}
use Rattle.settings_values.specs.Laws.{settings_give}
use Rattle.state_order.specs.Definitions.{ordered, order_buffer}
use Rattle.base_lent.specs.Definitions.{words_in}
use Rattle.c_state.specs.Definitions.{by_planner}
use Rattle.c_state.specs.CallLaws.{buffer_passes, buffer_desk, buffer_long, settings_few, settings_long, settings_front}
use Rattle.c_events.specs.OrderCases.{order_not_entered, order-refused, order_few, order_written}
use native.Mathlib.Omega.{arith}
use Rattle.c_events.proofs.order.order.Goals as goal

pub returns-then-first-ne0 : goal.returns-then-first-ne0
returns-then-first-ne0 c =
    let a = c.args in
    let t = order_not_entered a.role a.settings.now a.state.now a.desk.now a.node a.buffer.now _ c.lengths_ok-lengths.ensures _ c.enter_planner-entry.ensures c.if-first-ne0.true in
    record { answer = t.0; bytes = t.1 }

pub slice_bounds-order_under-start : goal.slice_bounds-order_under-start
slice_bounds-order_under-start c = omega (arith, settings_few _ _ _ _ _ c.enter_planner-entry.ensures, settings_long _ _ _ _ _ c.enter_planner-entry.ensures)

pub slice_bounds-order_under-end : goal.slice_bounds-order_under-end
slice_bounds-order_under-end c = omega (arith, settings_few _ _ _ _ _ c.enter_planner-entry.ensures, settings_long _ _ _ _ _ c.enter_planner-entry.ensures)

pub order_under-requires : goal.order_under-requires
order_under-requires c =
    let a = c.args in
    let p = buffer_passes (by_planner a.role) a.settings.now a.state.now a.desk.now a.buffer.now _ c.lengths_ok-lengths.ensures _ c.enter_planner-entry.ensures c.if-first-ne0.false in
    let front = settings_front _ _ _ _ _ c.enter_planner-entry.ensures p.settings-ok in
    record { settings = subst Settings (sym front) (settings_give _ p.settings-ok); desk_len = buffer_desk (by_planner a.role) a.settings.now a.state.now a.desk.now a.buffer.now _ c.lengths_ok-lengths.ensures _ c.enter_planner-entry.ensures c.if-first-ne0.false; buffer_len = refl }

pub encode-requires : goal.encode-requires
encode-requires c =
    let a = c.args in
    omega (arith, buffer_long (by_planner a.role) a.settings.now a.state.now a.desk.now a.buffer.now _ c.lengths_ok-lengths.ensures _ c.enter_planner-entry.ensures c.if-first-ne0.false)

pub with_length-requires : goal.with_length-requires
with_length-requires c =
    let a = c.args in
    let p = buffer_passes (by_planner a.role) a.settings.now a.state.now a.desk.now a.buffer.now _ c.lengths_ok-lengths.ensures _ c.enter_planner-entry.ensures c.if-first-ne0.false in
    let front = settings_front _ _ _ _ _ c.enter_planner-entry.ensures p.settings-ok in
    let answer = c.in-Ok.ensures.answer ∙ ap (λ (s : List ℕ). as_written (ordered s c.enter_planner-entry.result.state (words_in a.desk.now) a.node (replicate 512 0))) front in
    order_few a.role a.settings.now a.state.now a.desk.now a.node a.buffer.now _ c.lengths_ok-lengths.ensures _ c.enter_planner-entry.ensures c.if-first-ne0.false _ refl _ answer

pub returns-in-Ok : goal.returns-in-Ok
returns-in-Ok c =
    let a = c.args in
    let p = buffer_passes (by_planner a.role) a.settings.now a.state.now a.desk.now a.buffer.now _ c.lengths_ok-lengths.ensures _ c.enter_planner-entry.ensures c.if-first-ne0.false in
    let front = settings_front _ _ _ _ _ c.enter_planner-entry.ensures p.settings-ok in
    let answer = c.in-Ok.ensures.answer ∙ ap (λ (s : List ℕ). as_written (ordered s c.enter_planner-entry.result.state (words_in a.desk.now) a.node (replicate 512 0))) front in
    let words = c.in-Ok.ensures.words ∙ ap (λ (s : List ℕ). order_buffer s c.enter_planner-entry.result.state (words_in a.desk.now) a.node (replicate 512 0)) front in
    let t = order_written a.role a.settings.now a.state.now a.desk.now a.node a.buffer.now _ c.lengths_ok-lengths.ensures _ c.enter_planner-entry.ensures c.if-first-ne0.false _ refl _ answer _ words in
    record { answer = c.with_length.ensures ∙ t.0; bytes = c.encode.ensures ∙ t.1 }

pub returns-in-Err : goal.returns-in-Err
returns-in-Err c =
    let a = c.args in
    let p = buffer_passes (by_planner a.role) a.settings.now a.state.now a.desk.now a.buffer.now _ c.lengths_ok-lengths.ensures _ c.enter_planner-entry.ensures c.if-first-ne0.false in
    let front = settings_front _ _ _ _ _ c.enter_planner-entry.ensures p.settings-ok in
    let answer = c.in-Err.ensures.answer ∙ ap (λ (s : List ℕ). as_written (ordered s c.enter_planner-entry.result.state (words_in a.desk.now) a.node (replicate 512 0))) front in
    let t = order-refused a.role a.settings.now a.state.now a.desk.now a.node a.buffer.now _ c.lengths_ok-lengths.ensures _ c.enter_planner-entry.ensures c.if-first-ne0.false _ refl _ answer in
    record { answer = t.0; bytes = t.1 }
