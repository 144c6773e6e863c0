-- `state_planner::State::fetched_by` meets its contract: the refusal is the definition's, and the state follows. Assumes nothing.
use Rattle.std.proofs.lemmas.Result.{err_from_is_err_and}
use mathlib.Core.Path.{refl}
use Rattle.state_planner.specs.Definitions.{fetched_refusal, after_fetched}
use Rattle.state_planner.specs.EventLaws.{refused_beside, taken_beside, event_gives}
use Rattle.base_lent.specs.Definitions.{words_in}
use Rattle.state_planner.proofs.State.fetched_by.Goals as goal

pub returns-in_err-check_event : goal.returns-in_err-check_event
unfolding fetched_refusal
returns-in_err-check_event c =
    let a = c.args in
    let next = after_fetched a.self a.node.0 in
    let p = err_from_is_err_and c.from_residual.result c.from_residual.ensures.1 in rw (p.1, p.2) (event_gives a.settings.now a.self (words_in a.desk.now) _ a.node.0 _ c.is_ordered-in_phase.ensures c.lacks-known.ensures next next (refused_beside _ _ _ c.in_err-check_event.ensures next) (λ h. refl))

pub returns : goal.returns
unfolding fetched_refusal
returns c =
    let a = c.args in
    let y = c.after_fetched in
    event_gives a.settings.now a.self (words_in a.desk.now) _ a.node.0 _ c.is_ordered-in_phase.ensures c.lacks-known.ensures y.result (after_fetched a.self a.node.0) (taken_beside _ _ _ c.in_ok-check_event.ensures y.result) y.ensures
