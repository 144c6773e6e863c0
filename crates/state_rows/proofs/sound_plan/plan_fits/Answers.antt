-- `state_rows::sound_plan::plan_fits` meets its contract: by whether a plan stands in the phase. Assumes nothing.
use mathlib.Core.Path.{sym, ◌∙◌}
use Rattle.state_rows.specs.Matches.{fits_blank, fits_matches}
use Rattle.state_rows.proofs.sound_plan.plan_fits.Goals as goal

pub returns-then-not-has_plan : goal.returns-then-not-has_plan
returns-then-not-has_plan c =
    let a = c.args in
    let k = c.has_plan in
    c.plan_blank.ensures
    ∙ fits_blank a.phase a.settings.now a.v a.held a.seen a.p (sym k.ensures ∙ c.if-not-has_plan.true)

pub returns : goal.returns
returns c =
    let a = c.args in
    let k = c.has_plan in
    c.matches.ensures
    ∙ fits_matches a.phase a.settings.now a.v a.held a.seen a.p (sym k.ensures ∙ c.if-not-has_plan.false)
