-- `plan_masks::number` meets its contract: by the first condition that fails, and where none does by the placement. Assumes nothing.
use mathlib.Core.Path.{sym, ap, ◌∙◌}
use Rattle.plan_quorum.specs.Answer.{quorum_from}
use Rattle.plan_masks.specs.Masks.{quorum_in}
use Rattle.plan_masks.specs.Numbered.{numbered_short, numbered_met}
use Rattle.plan_masks.proofs.number.Goals as goal

pub returns-in-Err : goal.returns-in-Err
returns-in-Err c = let a = c.args in
    numbered_short a.settings.now a.held (quorum_in a.settings.now a.v a.held a.masks.now) c.reason_number.result _
    (sym c.quorum-found.ensures ∙ ap quorum_from c.in-Err.is) c.reason_number.ensures

pub returns-in-Ok : goal.returns-in-Ok
returns-in-Ok c = let a = c.args in
    numbered_met a.settings.now a.held (quorum_in a.settings.now a.v a.held a.masks.now) c.placement_number.result
    (sym c.quorum-found.ensures ∙ ap quorum_from c.in-Ok.is) c.placement_number.ensures
