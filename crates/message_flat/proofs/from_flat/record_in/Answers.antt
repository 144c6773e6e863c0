-- The tests say which record it is.
use mathlib.Core.Path.{◌∙◌}
use Rattle.message_flat.specs.Counted.{at_mask, at_place, at_run}
use Rattle.message_flat.proofs.from_flat.record_in.Goals as goal

pub returns-then-j-masks : goal.returns-then-j-masks
returns-then-j-masks c = c.mask_word.ensures ∙ at_mask _ _ _ _ c.wide-masks.ensures c.wide.ensures _ _ c.if-j-masks.true

pub returns-then-j-first : goal.returns-then-j-first
returns-then-j-first c = c.place_word.ensures
    ∙ at_place _ _ _ _ c.wide-masks.ensures c.wide.ensures _ _ c.if-j-masks.false
    c.if-j-first.true

pub returns : goal.returns
returns c = c.run_word.ensures
    ∙ at_run _ _ _ _ c.wide-masks.ensures c.wide.ensures _ _ _
    c.count_at.ensures c.if-j-masks.false c.if-j-first.false
