-- By the test. Assumes nothing.
use mathlib.Core.Path.{sym, ap, ◌∙◌}
use mathlib.Core.Bool.{Bool, cond}
use Rattle.base_laws.specs.Definitions.{with}
use Rattle.plan_page.proofs.added.Goals as goal

pub returns-then-yes : goal.returns-then-yes
returns-then-yes c =
    let a = c.args in
    c.with.ensures ∙ sym (ap (λ (b : Bool). cond b (with a.m a.s) a.m) c.if-yes.true)
