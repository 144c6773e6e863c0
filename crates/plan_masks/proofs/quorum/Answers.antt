-- `plan_masks::quorum` meets its contract: waits ask of holders only whether there is one. Assumes nothing.
use mathlib.Core.Path.{ap, ◌∙◌}
use Rattle.plan_quorum.specs.Quorum.{quorum_by}
use Rattle.plan_masks.specs.Masks.{quorum-in}
use Rattle.plan_masks.proofs.quorum.Goals as goal

pub returns : goal.returns
returns c = let s = c in
    let a = s.args in
    c.quorum.ensures ∙ ap (quorum_by a.settings.now a.v a.held) c.some_holders.ensures
    ∙ quorum-in a.settings.now a.v a.held a.masks.now s.requires
