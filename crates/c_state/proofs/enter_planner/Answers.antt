-- The entry of a call that is allowed to the planner.
use mathlib.Core.Bool.{Bool}
use mathlib.Core.Path.{ap, ◌∙◌}
use Rattle.c_state.specs.Calls.{entry}
use Rattle.c_state.proofs.enter_planner.Goals as goal

pub returns : goal.returns
returns c =
    let a = c.args in
    c.enter.ensures ∙ ap (λ (b : Bool). entry b a.lengths a.settings.now a.state.now) c.by_planner.ensures
