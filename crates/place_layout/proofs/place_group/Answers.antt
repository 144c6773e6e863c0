-- `place_layout::place_group` meets its contract: the search's answer gives one subgroup more, or none exists; a subgroup without shards has
-- nothing to place. The moves are at most 32, so the total fits. Assumes nothing.
use mathlib.Core.Path.{refl, sym, ◌∙◌}
use native.Mathlib.Omega.{arith}
use Rattle.base_laws.specs.Bools.{clash}
use Rattle.place_layout.specs.Steps.{moved_small, stage_more, stage_none, none_here}
use Rattle.place_layout.proofs.place_group.Goals as goal

pub returns-then-not-has_shards : goal.returns-then-not-has_shards
returns-then-not-has_shards c =
    let p = c.requires in
    let h = c.has_shards in
    record {
      more = λ e. stage_none p.settings p.laid_so_far (sym h.ensures ∙ c.if-not-has_shards.true) refl refl refl;
      unplaced = λ e. clash refl e;
    }

pub returns-in-None : goal.returns-in-None
returns-in-None c =
    let p = c.requires in
    record {
      more = λ e. clash e refl;
      unplaced = λ e. none_here p.settings p.held_bound p.laid_so_far c.in-None.ensures p.g_bound refl refl refl refl;
    }

pub overflow_add-result : goal.overflow_add-result
overflow_add-result c =
    let p = c.requires in
    record {
      fits =
          omega (
            arith,
            p.g_bound,
            p.laid_so_far.small,
            c.group_moves-moved.ensures,
            moved_small p.settings p.held_bound p.laid_so_far c.in-Some.ensures refl c.masks_with-masks.ensures,
          );
    }

pub returns-in-Some : goal.returns-in-Some
returns-in-Some c =
    let p = c.requires in
    record {
      more = λ e.
          stage_more p.settings p.held_bound p.laid_so_far c.in-Some.ensures refl c.masks_with-masks.ensures
          c.group_moves-moved.ensures refl refl;
      unplaced = λ e. clash refl e;
    }
