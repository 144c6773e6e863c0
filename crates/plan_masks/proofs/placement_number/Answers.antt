-- `plan_masks::placement_number` meets its contract: the placement found is valid, and where none is found the lowest subgroup without one is named.
use mathlib.Core.Logic.{inl, inr}
use mathlib.Core.Path.{refl}
use lib.ListN.{get_or}
use Rattle.plan_masks.proofs.placement_number.Goals as goal

pub returns-then-placed : goal.returns-then-placed
returns-then-placed c = let p = c.place-placed in
    let laid = p.ensures.laid c.if-placed.true in
    inl (refl, λ g l. (λ s. get_or p.result.masks s 0, (laid.chosen g l).least.valid))

pub returns : goal.returns
returns c = let p = c.place-placed in
    let none = p.ensures.unplaced c.if-placed.false in
    inr (refl, (p.result.group, none.lowest))
