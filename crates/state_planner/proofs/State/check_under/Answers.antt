-- `state_planner::State::check_under` meets its contract: rows 3 and 4 of an event that any phase takes. Assumes nothing.
use Rattle.state_planner.specs.Definitions.{check_refusal}
use Rattle.state_planner.proofs.State.check_under.Goals as goal

pub returns : goal.returns
unfolding check_refusal
returns c = c.enter-entered.ensures.rows
