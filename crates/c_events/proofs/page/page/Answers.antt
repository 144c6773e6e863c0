-- Each return is a case of what the call answers and leaves.
use mathlib.Core.Path.{sym, ap, ◌∙◌, subst}
use mathlib.Core.List.{List}
use Prim.Native.Nat.{ℕ}
use native.Mathlib.Omega.{arith}
use lib.ListN.{length}
use Rattle.settings_values.specs.Definitions.{Settings}
use Rattle.settings_values.specs.Laws.{settings_give}
use Rattle.base_lent.specs.Definitions.{words_in}
use Rattle.state_page.specs.Definitions.{PageUnder}
use Rattle.c_state_words.specs.PageStored.{length_page}
use Rattle.c_state.specs.CallLaws.{settings_few, settings_long, settings_front, buffer_passes, buffer_desk, buffer_long}
use Rattle.c_events.specs.PageCases.{page_not_entered, page-refused, page_shown}
use Rattle.c_events.proofs.page.page.Goals as goal

pub returns-then-first-ne0 : goal.returns-then-first-ne0
returns-then-first-ne0 c =
    let a = c.args in
    let may = c.may_read-allowed.ensures in
    let lengths = c.lengths_ok-lengths.ensures in
    let e = c.enter-entry.ensures in
    page_not_entered a.role a.settings.now a.state.now a.desk.now a.subgroup a.buffer.now _ may _ lengths _ e c.if-first-ne0.true

pub slice_bounds-page_under-start : goal.slice_bounds-page_under-start
slice_bounds-page_under-start c =
    let e = c.enter-entry.ensures in
    omega (arith, settings_few _ _ _ _ _ e, settings_long _ _ _ _ _ e)

pub slice_bounds-page_under-end : goal.slice_bounds-page_under-end
slice_bounds-page_under-end c =
    let e = c.enter-entry.ensures in
    omega (arith, settings_few _ _ _ _ _ e, settings_long _ _ _ _ _ e)

pub page_under-paged-requires : goal.page_under-paged-requires
page_under-paged-requires c =
    let a = c.args in
    let may = c.may_read-allowed.ensures in
    let lengths = c.lengths_ok-lengths.ensures in
    let e = c.enter-entry.ensures in
    let h = c.if-first-ne0.false in
    let p = buffer_passes _ a.settings.now a.state.now a.desk.now a.buffer.now _ lengths _ e h in
    record { settings = subst Settings (sym (settings_front _ _ _ _ _ e p.settings-ok)) (settings_give _ p.settings-ok); desk_len = buffer_desk _ a.settings.now a.state.now a.desk.now a.buffer.now _ lengths _ e h }

pub returns-then-refusal-ne0 : goal.returns-then-refusal-ne0
returns-then-refusal-ne0 c =
    let a = c.args in
    let may = c.may_read-allowed.ensures in
    let lengths = c.lengths_ok-lengths.ensures in
    let e = c.enter-entry.ensures in
    let h = c.if-first-ne0.false in
    let p = buffer_passes _ a.settings.now a.state.now a.desk.now a.buffer.now _ lengths _ e h in
    let front = settings_front _ _ _ _ _ e p.settings-ok in
    let under =
    subst (λ (s : List ℕ). PageUnder s c.enter-entry.result.state (words_in a.desk.now) a.subgroup c.page_under-paged.result) front c.page_under-paged.ensures in
    page-refused a.role a.settings.now a.state.now a.desk.now a.subgroup a.buffer.now _ may _ lengths _ e h _ under c.if-refusal-ne0.true

pub encode-requires : goal.encode-requires
encode-requires c =
    let a = c.args in
    let may = c.may_read-allowed.ensures in
    let lengths = c.lengths_ok-lengths.ensures in
    let e = c.enter-entry.ensures in
    let many = ap length c.encode-words.ensures ∙ length_page _ in
    omega (arith, many, buffer_long _ a.settings.now a.state.now a.desk.now a.buffer.now _ lengths _ e c.if-first-ne0.false)

pub returns : goal.returns
returns c =
    let a = c.args in
    let may = c.may_read-allowed.ensures in
    let lengths = c.lengths_ok-lengths.ensures in
    let e = c.enter-entry.ensures in
    let h = c.if-first-ne0.false in
    let p = buffer_passes _ a.settings.now a.state.now a.desk.now a.buffer.now _ lengths _ e h in
    let front = settings_front _ _ _ _ _ e p.settings-ok in
    let under =
    subst (λ (s : List ℕ). PageUnder s c.enter-entry.result.state (words_in a.desk.now) a.subgroup c.page_under-paged.result) front c.page_under-paged.ensures in
    page_shown a.role a.settings.now a.state.now a.desk.now a.subgroup a.buffer.now _ may _ lengths _ e h _ under c.if-refusal-ne0.false _ c.encode-words.ensures _ _ c.with_length.ensures c.encode.ensures
