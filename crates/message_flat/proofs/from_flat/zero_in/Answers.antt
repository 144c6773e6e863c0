-- At the loop's head no triple before the i-th has count 0.
use mathlib.Core.Path.{sym, ◌∙◌}
use borrow.Author.Tests.{ne_eqb}
use Rattle.base_laws.specs.Below.{any_none, any_more}
use Rattle.message_flat.specs.Counted.{zero_found, zero_none}
use Rattle.message_flat.proofs.from_flat.zero_in.Goals as goal

pub loop-i-init : goal.loop-i-init
loop-i-init c = any_none _

pub returns-then-word_in-eq0 : goal.returns-then-word_in-eq0
returns-then-word_in-eq0 c = zero_found _ _ _ _ c.count_at-at.ensures c.wide-runs.ensures
    c.loop-i.i c.loop-i-test.true (sym c.word_in.ensures ∙ c.if-word_in-eq0.true)

pub loop-i-preserved : goal.loop-i-preserved
loop-i-preserved c =
    let l = c.loop-i in any_more l.i _ l.invariant (ne_eqb _ _ (λ z. c.if-word_in-eq0.false (c.word_in.ensures ∙ z)))

pub returns : goal.returns
returns c = zero_none _ _ _ _ c.count_at-at.ensures c.wide-runs.ensures c.loop-i.i c.loop-i-test.false
    c.loop-i.invariant
