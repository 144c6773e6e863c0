-- `place_layout::place_one` meets its contract: the search's answer for the subgroup beside no other, or none exists; a subgroup without
-- shards has nothing to place. Assumes nothing.
use mathlib.Core.Path.{refl, sym, ◌∙◌}
use Rattle.place_layout.specs.Steps.{alone_none, alone_unplaced, alone_placed}
use Rattle.place_layout.proofs.place_one.Goals as goal

pub returns-then-not-has_shards : goal.returns-then-not-has_shards
returns-then-not-has_shards c =
    let p = c.requires in
    let h = c.has_shards in
    alone_none p.settings (sym h.ensures ∙ c.if-not-has_shards.true) refl refl refl

pub returns-in-None : goal.returns-in-None
returns-in-None c =
    let p = c.requires in
    alone_unplaced p.settings p.held_bound c.in-None.ensures refl refl refl refl

pub returns-in-Some : goal.returns-in-Some
returns-in-Some c =
    let p = c.requires in
    alone_placed p.settings p.held_bound c.in-Some.ensures refl refl c.masks_with-masks.ensures c.group_moves-moves.ensures
