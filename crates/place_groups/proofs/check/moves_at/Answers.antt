use Rattle.place_groups.specs.Definitions.{group_moves_at}
use mathlib.Core.Path.{sym}
use borrow.Author.Tests.{eq-eqb, ne_eqb}
use borrow.Author.Rules.{rules}
use Rattle.place_groups.proofs.check.moves_at.Goals as goal

pub returns-then-subgroup-g : goal.returns-then-subgroup-g
unfolding group_moves_at
returns-then-subgroup-g c = record { value = simp (sym c.subgroup.ensures, ne_eqb _ _ c.if-subgroup-g.true); upper_bound = search rules }

pub returns : goal.returns
unfolding group_moves_at
returns c = record { value = simp (sym c.subgroup.ensures, eq-eqb _ _ c.if-subgroup-g.false, sym c.moved.ensures.value); upper_bound = c.moved.ensures.upper_bound }
