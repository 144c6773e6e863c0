-- The definition's two tests, one after the other. Assumes nothing.
use mathlib.Core.Path.{sym, ap, ◌∙◌}
use mathlib.Core.Bool.{Bool, ◌||◌}
use Prim.Native.Nat.{◌/◌}
use native.Mathlib.Omega.{arith}
use lib.Dec.{ltb}
use borrow.Author.Tests.{lt-ltb, le-ltb}
use Rattle.base_laws.specs.Bools.{or_left}
use Rattle.base_laws.specs.Definitions.{any_below}
use Rattle.search_laws.specs.Case.{Case, spread, meets, moves, weight}
use Rattle.search_laws.specs.Tables.{case_of, owners_of}
use Rattle.search_judge.specs.Post.{hopeless_from}
use Rattle.search_judge.proofs.hopeless.Goals as goal

pub returns-then-weight-k : goal.returns-then-weight-k
unfolding hopeless_from moves weight
returns-then-weight-k c =
    let a = c.args in
    let K : Case = case_of a.sets.now a.needs.now a.caps.now a.costs.now a.idle in
    sym (or_left (any_below (a.t / 32) (λ i. ltb (spread K (owners_of a.owner.now) i) (K.need i)))
    (lt-ltb a.k (moves K.cost (owners_of a.owner.now)) (omega (arith, c.if-weight-k.true, c.weight.ensures.0))))

pub returns : goal.returns
unfolding hopeless_from moves weight spread meets
returns c =
    let a = c.args in
    let K : Case = case_of a.sets.now a.needs.now a.caps.now a.costs.now a.idle in
    c.thin.ensures
    ∙ sym (ap (λ (b : Bool). b || any_below (a.t / 32) (λ i. ltb (spread K (owners_of a.owner.now) i) (K.need i)))
    (le-ltb a.k (moves K.cost (owners_of a.owner.now)) (omega (arith, c.if-weight-k.false, c.weight.ensures.0))))
