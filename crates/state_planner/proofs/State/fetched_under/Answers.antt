-- `state_planner::State::fetched_under` meets its contract: the next state or the refusal, and beside a refusal the state as it was. Assumes nothing.
use mathlib.Core.Path.{ap, ◌∙◌}
use Rattle.state_planner.specs.Definitions.{fetched_of}
use Rattle.state_planner.specs.Events.{outcome_by}
use Rattle.state_planner.specs.EventLaws.{handed_is}
use Rattle.state_planner.proofs.State.fetched_under.Goals as goal

pub returns : goal.returns
unfolding fetched_of
returns c = c.handed_back.ensures ∙ ap (outcome_by c.args.self) c.fetched_by.ensures ∙ handed_is _ c.args.self _
