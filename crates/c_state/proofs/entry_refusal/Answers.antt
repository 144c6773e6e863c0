-- Each answer follows from the tests on the way to it.
use Rattle.base_ids.specs.Definitions.{unless}
use Rattle.c_state.proofs.entry_refusal.Goals as goal

pub returns-then-not-lengths : goal.returns-then-not-lengths
unfolding unless
returns-then-not-lengths c = simp (c.if-not-lengths.true)

pub returns-then-not-right : goal.returns-then-not-right
unfolding unless
returns-then-not-right c = simp (c.if-not-lengths.false, c.if-not-right.true)

pub returns-then-not-allowed : goal.returns-then-not-allowed
unfolding unless
returns-then-not-allowed c = simp (c.if-not-lengths.false, c.if-not-right.false, c.if-not-allowed.true)

pub returns-then-not-ok : goal.returns-then-not-ok
unfolding unless
returns-then-not-ok c =
    let a = c.args in
    simp (c.if-not-lengths.false, c.if-not-right.false, c.if-not-allowed.false, c.if-not-ok.true)

pub returns : goal.returns
unfolding unless
returns c =
    let a = c.args in
    simp (c.if-not-lengths.false, c.if-not-right.false, c.if-not-allowed.false, c.if-not-ok.false)
