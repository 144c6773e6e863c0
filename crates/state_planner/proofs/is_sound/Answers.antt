-- `state_planner::is_sound` meets its contract: part by part, as the definition has them. Assumes nothing.
use mathlib.Core.Path.{sym, ◌∙◌}
use borrow.Author.Tests.{not-true, not-false}
use Rattle.report_rows.specs.Laws.{latest_told}
use Rattle.plan_restart.specs.Kept.{held_below}
use Rattle.plan_seen.specs.Sight.{seen_ok, seen_view}
use Rattle.state_rows.specs.Matches.{fits_told}
use Rattle.state_planner.specs.Definitions.{sound}
use Rattle.state_planner.proofs.is_sound.Goals as goal

pub returns-then-not-kept_sound : goal.returns-then-not-kept_sound
unfolding sound
returns-then-not-kept_sound c =
    let k = c.kept_sound in
    λ d e.
    simp (sym k.ensures, c.if-not-kept_sound.true)

pub returns-then-not-seen : goal.returns-then-not-seen
unfolding sound
returns-then-not-seen c =
    let a = c.args in
    let k = c.kept_sound in
    λ d e.
    simp (sym k.ensures, c.if-not-kept_sound.false, sym (seen_ok a.settings.now a.x.kept a.x.termination a.x.held d a.seen e), not-true _ c.if-not-seen.true)

pub returns-then-not-marks_sound : goal.returns-then-not-marks_sound
unfolding sound
returns-then-not-marks_sound c =
    let a = c.args in
    let k = c.kept_sound in
    let m = c.marks_sound in
    λ d e.
    simp (sym k.ensures, c.if-not-kept_sound.false, sym (seen_ok a.settings.now a.x.kept a.x.termination a.x.held d a.seen e), not-false _ c.if-not-seen.false, sym m.ensures, c.if-not-marks_sound.true)

pub returns-then-not-latest_sound : goal.returns-then-not-latest_sound
unfolding sound
returns-then-not-latest_sound c =
    let a = c.args in
    let k = c.kept_sound in
    let m = c.marks_sound in
    let l = c.latest_sound in
    λ d e.
    let ok = sym (seen_ok a.settings.now a.x.kept a.x.termination a.x.held d a.seen e) ∙ not-false _ c.if-not-seen.false in
    simp (sym k.ensures, c.if-not-kept_sound.false, ok, sym m.ensures, c.if-not-marks_sound.false, sym (l.ensures ∙ latest_told a.settings.now a.x.kept.number.0 a.x.held a.seen.views a.x.latest d (seen_view a.settings.now a.x.kept a.x.termination a.x.held d a.seen e ok)), c.if-not-latest_sound.true)

pub plan_fits-requires : goal.plan_fits-requires
plan_fits-requires c =
    let s = c in
    let a = s.args in
    let k = c.kept_sound in
    record { settings = s.requires.settings; held_bound = held_below a.settings.now a.x.kept a.x.termination a.x.held (sym k.ensures ∙ c.if-not-kept_sound.false) }

pub returns : goal.returns
unfolding sound
returns c =
    let s = c in
    let a = s.args in
    let k = c.kept_sound in
    let m = c.marks_sound in
    let l = c.latest_sound in
    λ d e.
    let ok = sym (seen_ok a.settings.now a.x.kept a.x.termination a.x.held d a.seen e) ∙ not-false _ c.if-not-seen.false in
    simp (sym k.ensures, c.if-not-kept_sound.false, ok, sym m.ensures, c.if-not-marks_sound.false, sym (l.ensures ∙ latest_told a.settings.now a.x.kept.number.0 a.x.held a.seen.views a.x.latest d (seen_view a.settings.now a.x.kept a.x.termination a.x.held d a.seen e ok)), c.if-not-latest_sound.false, sym (c.plan_fits.ensures ∙ fits_told a.x.phase a.settings.now a.x.kept a.x.termination a.x.held d a.x.plan a.seen e s.requires.settings ok))
