-- `state_page::page_under` meets its contract: row 3 as every event finds it, then the page by what was seen of the desk. Assumes nothing.
use mathlib.Core.Path.{refl, sym, ap, ◌∙◌}
use Rattle.base_lent.specs.Definitions.{words_in}
use Rattle.base_ids.specs.Definitions.{accepted}
use Rattle.base_ids.specs.Results.{err_code}
use Rattle.report_desk.specs.Bytes.{desk_length}
use Rattle.plan_restart.specs.Kept.{held_below}
use Rattle.state_planner.specs.EventLaws.{given_refusal, given_none}
use Rattle.state_page.specs.Steps.{sound_entry, sound_passed, paged_refused, paged_shown}
use Rattle.state_page.proofs.page_under.Goals as goal

pub returns-in-Err : goal.returns-in-Err
returns-in-Err c =
    let s = c in
    let a = s.args in
    let d = words_in a.desk.now in
    let k = sym c.in-Err.is ∙ c.enter-entry.ensures.rows in
    paged_refused a.settings.now a.x d a.g _ (given_refusal _ _ _ k ∙ sound_entry a.settings.now a.x d (desk_length a.desk.now s.requires.desk_len) s.requires.settings)
    (err_code _ _ _ k) c.refuse.ensures

pub page_seen-requires : goal.page_seen-requires
page_seen-requires c =
    let s = c in
    let a = s.args in
    let d = words_in a.desk.now in
    let e = sym (given_none _ _ _ (sym c.in-Ok.is ∙ c.enter-entry.ensures.rows)) ∙ sound_entry a.settings.now a.x d (desk_length a.desk.now s.requires.desk_len) s.requires.settings in
    record { settings = s.requires.settings; held_bound = held_below a.settings.now a.x.kept a.x.termination a.x.held (sound_passed a.settings.now a.x d (sym (ap accepted e))).kept-sound }

pub returns-in-Ok : goal.returns-in-Ok
returns-in-Ok c =
    let s = c in
    let a = s.args in
    let d = words_in a.desk.now in
    let e = sym (given_none _ _ _ (sym c.in-Ok.is ∙ c.enter-entry.ensures.rows)) ∙ sound_entry a.settings.now a.x d (desk_length a.desk.now s.requires.desk_len) s.requires.settings in
    paged_shown a.settings.now a.x d a.g _ e refl c.enter-entry.ensures.seen c.page_seen.ensures
