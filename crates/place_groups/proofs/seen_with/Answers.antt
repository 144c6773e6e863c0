use native.Mathlib.Omega.{arith}
use Rattle.place_groups.specs.Sets.{seen_with}
use mathlib.Core.Path.{sym}
use Rattle.place_groups.proofs.seen_with.Goals as goal

pub returns-then-not-has : goal.returns-then-not-has
unfolding seen_with
returns-then-not-has c = simp (sym c.has.ensures, c.if-not-has.true)

pub with-requires : goal.with-requires
with-requires c =
    let s = c.requires.settings in
    omega (arith, c.set_of.ensures, s.set_below c.args.n.0 c.requires.n_bound, s.sizes.sets_to)

pub returns : goal.returns
unfolding seen_with
returns c = simp (sym c.has.ensures, c.if-not-has.false, sym c.set_of.ensures, sym c.with.ensures)
