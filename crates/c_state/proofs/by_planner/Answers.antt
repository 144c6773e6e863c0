-- What is allowed to the role that the word stands for.
use mathlib.Core.Path.{ap, ◌∙◌}
use Rattle.base_roles.specs.Definitions.{may_plan}
use Rattle.c_state.proofs.by_planner.Goals as goal

pub returns : goal.returns
returns c = c.may_plan.ensures ∙ ap may_plan c.role_of.ensures
