-- By the test. Assumes nothing.
use mathlib.Core.Path.{sym, ap, ◌∙◌}
use mathlib.Core.Bool.{Bool, cond}
use Rattle.base_laws.specs.Definitions.{without}
use Rattle.search_bounds.proofs.dropped.Goals as goal

pub returns-then-yes : goal.returns-then-yes
returns-then-yes c = c.without.ensures ∙ sym (ap (λ (b : Bool). cond b (without c.args.m c.args.n) c.args.m) c.if-yes.true)
