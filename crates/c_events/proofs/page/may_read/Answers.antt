-- What is allowed to the role that the word stands for.
use mathlib.Core.Path.{ap, ◌∙◌}
use Rattle.base_roles.specs.declared.Role.{Role}
use Rattle.base_roles.specs.Definitions.{may_read}
use Rattle.c_events.proofs.page.may_read.Goals as goal

pub returns : goal.returns
returns c = c.may_read.ensures ∙ ap (λ (r : Role). may_read r c.args.subgroup) c.role_of.ensures
