-- `state_preview::holding` meets its contract: it is the definition. Assumes nothing.
use mathlib.Core.Path.{refl}
use Rattle.state_planner.specs.Definitions.{holding}
use Rattle.state_preview.proofs.holding.Goals as goal

pub returns : goal.returns
unfolding holding
returns c = refl
