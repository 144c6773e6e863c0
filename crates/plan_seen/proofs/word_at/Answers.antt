-- `plan_seen::word_at` meets its contract, by the word's place in its pair.
use mathlib.Core.Path.{◌∙◌}
use Rattle.plan_seen.specs.Steps.{word_even, word_odd}
use Rattle.plan_seen.proofs.word_at.Goals as goal

pub returns-then-k-eq0 : goal.returns-then-k-eq0
returns-then-k-eq0 c = let a = c.args in
    c.low.ensures ∙ word_even a.b.now a.k c.if-k-eq0.true

pub returns : goal.returns
returns c = let a = c.args in
    c.high.ensures ∙ word_odd a.b.now a.k c.if-k-eq0.false
