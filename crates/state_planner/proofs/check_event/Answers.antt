-- `state_planner::check_event` meets its contract: rows 3 and 4, then those of the node. Assumes nothing.
use Rattle.std.proofs.lemmas.Result.{err_from_is_err_and}
use mathlib.Core.Path.{sym, ap, ◌∙◌}
use Rattle.base_ids.specs.declared.Refusal.{Refusal}
use Rattle.base_ids.specs.Definitions.{or_refusal}
use Rattle.base_ids.specs.Refusals.{first_none, rows_refused}
use Rattle.base_ids.specs.Results.{err_is}
use Rattle.state_planner.specs.Definitions.{event_refusal}
use Rattle.state_planner.specs.EventLaws.{given_refusal, given_refuses, given_none}
use Rattle.state_planner.proofs.check_event.Goals as goal

pub returns-in_err-rows : goal.returns-in_err-rows
unfolding event_refusal
returns-in_err-rows c =
    let f = sym c.in_err-rows.was ∙ c.enter-entry.ensures.rows in
    let p = err_from_is_err_and c.from_residual.result c.from_residual.ensures.1 in rw (p.1, p.2) (err_is _ _ _ (rows_refused (given_refusal _ _ _ f) _ (given_refuses _ _ _ f)) (given_refuses _ _ _ f))

pub returns : goal.returns
unfolding event_refusal
returns c =
    c.check_node.ensures ∙ ap (λ (r : Refusal). or_refusal r tt) (sym (first_none _ _ (given_none _ _ _ (sym c.in_ok-rows.was ∙ c.enter-entry.ensures.rows))))
