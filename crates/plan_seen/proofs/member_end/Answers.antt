-- `plan_seen::member_end` meets its contract: of a shard of another node nothing is asked.
use mathlib.Core.Path.{sym, ◌∙◌}
use native.Mathlib.Omega.{arith}
use Rattle.base_laws.specs.Bools.{clash}
use Rattle.plan_seen.proofs.member_end.Goals as goal

pub returns-then-not-has : goal.returns-then-not-has
returns-then-not-has c = λ h f. let k = c.has in
    clash h (sym k.ensures ∙ c.if-not-has.true)

pub returns-then-last-s-gt127 : goal.returns-then-last-s-gt127
returns-then-last-s-gt127 c = λ h f. absurd (omega (arith, f, c.if-last-s-gt127.true))

pub returns : goal.returns
returns c = λ h f. c.end_at.ensures
