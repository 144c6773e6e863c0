-- Each return is a case of what the call answers and leaves.
use mathlib.Core.Path.{sym, subst}
use mathlib.Core.List.{List}
use Prim.Native.Nat.{ℕ}
use Rattle.settings_values.specs.Definitions.{Settings}
use Rattle.settings_values.specs.Laws.{settings_give}
use Rattle.state_planner.specs.Definitions.{DecidesWithin}
use Rattle.state_laws.specs.Within.{within_small}
use Rattle.base_lent.specs.Definitions.{words_in}
use Rattle.c_state.specs.Definitions.{by_planner}
use Rattle.c_state.specs.CallLaws.{desk_passes, desk_long, settings_few, settings_long, settings_front}
use Rattle.c_events.specs.Withins.{within_value, within_entry, within_done}
use native.Mathlib.Omega.{arith}
use Rattle.c_events.proofs.decide.decide_within.Goals as goal

pub returns-then-code-ne0 : goal.returns-then-code-ne0
returns-then-code-ne0 c = within_entry _ _ _ _ _ _ c.enter_planner-entry.ensures c.if-code-ne0.true

pub slice_bounds-decide_within_under-start : goal.slice_bounds-decide_within_under-start
slice_bounds-decide_within_under-start c = let e = c.enter_planner-entry.ensures in omega (arith, settings_few _ _ _ _ _ e, settings_long _ _ _ _ _ e)

pub slice_bounds-decide_within_under-end : goal.slice_bounds-decide_within_under-end
slice_bounds-decide_within_under-end c = let e = c.enter_planner-entry.ensures in omega (arith, settings_few _ _ _ _ _ e, settings_long _ _ _ _ _ e)

pub decide_within_under-o-requires : goal.decide_within_under-o-requires
decide_within_under-o-requires c =
    let a = c.args in
    let e = c.enter_planner-entry.ensures in
    let p = desk_passes (by_planner a.role) a.settings.now a.state.now a.desk.now _ e c.if-code-ne0.false in
    record { settings = subst Settings (sym (settings_front _ _ _ _ _ e p.settings-ok)) (settings_give _ p.settings-ok); desk_len = desk_long (by_planner a.role) a.settings.now a.state.now a.desk.now _ e c.if-code-ne0.false }

pub keep_within-requires : goal.keep_within-requires
keep_within-requires c =
    let a = c.args in
    let e = c.enter_planner-entry.ensures in
    let p = desk_passes (by_planner a.role) a.settings.now a.state.now a.desk.now _ e c.if-code-ne0.false in
    let w = subst (λ (s : List ℕ). DecidesWithin s c.enter_planner-entry.result.state (words_in a.desk.now) a.rounds c.decide_within_under-o.result) (settings_front _ _ _ _ _ e p.settings-ok) c.decide_within_under-o.ensures in
    (p.long, (within_value _ _ _ _ _ p.settings-ok w, within_small w))

pub returns : goal.returns
returns c =
    let a = c.args in
    let e = c.enter_planner-entry.ensures in
    let p = desk_passes (by_planner a.role) a.settings.now a.state.now a.desk.now _ e c.if-code-ne0.false in
    within_done _ _ _ _ _ _ e c.if-code-ne0.false _
    (subst (λ (s : List ℕ). DecidesWithin s c.enter_planner-entry.result.state (words_in a.desk.now) a.rounds c.decide_within_under-o.result) (settings_front _ _ _ _ _ e p.settings-ok) c.decide_within_under-o.ensures)
    _ _ c.keep_within.ensures.0 c.keep_within.ensures.1
