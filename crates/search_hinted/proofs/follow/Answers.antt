-- The loop's invariant: what is first from p is first of all. At the end the owners are tested. Assumes nothing.
use mathlib.Core.Path.{refl}
use native.Mathlib.Omega.{arith}
use Rattle.search_laws.specs.Case.{weight}
use Rattle.search_hinted.specs.Post.{sure_start, sure_next, found_end}
use Rattle.search_hinted.proofs.follow.Goals as goal

pub loop-p-init : goal.loop-p-init
loop-p-init c = (omega arith, sure_start c.requires.narrowed)

pub step-requires : goal.step-requires
step-requires c = record { p_bound = (c.loop-p-test.true, c.requires.k_bound); small = c.requires.small; «at» = c.loop-p.invariant.1.at }

pub loop-p-smaller : goal.loop-p-smaller
loop-p-smaller c = omega (arith, c.in_ok-next.ensures.more, c.in_ok-next.ensures.most)

pub loop-p-preserved : goal.loop-p-preserved
loop-p-preserved c = (c.in_ok-next.ensures.most, sure_next c.loop-p.invariant.1 c.in_ok-next.ensures)

pub returns-then-within : goal.returns-then-within
unfolding weight
returns-then-within c =
    found_end c.loop-p.invariant.0 c.loop-p-test.false c.loop-p.invariant.1 (c.within.ensures.yes c.if-within.true)
    (record { exists = refl; weight = c.placed.ensures.weight; owners = c.placed.ensures.owners })
