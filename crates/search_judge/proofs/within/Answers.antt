-- Each test that fails is one that a valid placement of a weight of at most k passes; all passed, the placement is one. Assumes nothing.
use mathlib.Core.Path.{sym, ◌∙◌}
use native.Mathlib.Omega.{arith}
use Rattle.base_laws.specs.Bools.{clash}
use Rattle.search_laws.specs.Case.{weight, spread, meets}
use Rattle.search_laws.specs.Tests.{valid_of, valid_stands, valid_met}
use Rattle.search_judge.specs.Post.{judged, rejected}
use Rattle.search_judge.proofs.within.Goals as goal

pub returns-then-not-stands : goal.returns-then-not-stands
returns-then-not-stands c = rejected (λ w. clash (c.stands.ensures ∙ valid_stands w.valid) (c.if-not-stands.true))

pub returns-then-not-filled : goal.returns-then-not-filled
unfolding spread meets
returns-then-not-filled c = rejected (λ w. clash (c.filled.ensures ∙ valid_met w.valid) (c.if-not-filled.true))

pub returns-then-weight-k : goal.returns-then-weight-k
unfolding weight
returns-then-weight-k c = rejected (λ w. omega (arith, c.if-weight-k.true, c.weight.ensures.0, w.cheap))

pub returns : goal.returns
unfolding weight spread meets
returns c =
    judged
    (record {
      valid =
          let s = c.stands in
          let f = c.filled in
          valid_of (sym s.ensures ∙ c.if-not-stands.false)
          (sym f.ensures ∙ c.if-not-filled.false);
      cheap = omega (arith, c.if-weight-k.false, c.weight.ensures.0);
    })
