-- By the test. Assumes nothing.
use mathlib.Core.Path.{sym, ap, ◌∙◌}
use mathlib.Core.Bool.{Bool, cond}
use Rattle.base_laws.specs.Definitions.{with}
use Rattle.search_bounds.proofs.added.Goals as goal

pub returns-then-yes : goal.returns-then-yes
returns-then-yes c = c.with.ensures ∙ sym (ap (λ (b : Bool). cond b (with c.args.m c.args.n) c.args.m) c.if-yes.true)
