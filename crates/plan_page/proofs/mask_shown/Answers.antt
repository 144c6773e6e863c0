-- `plan_page::mask_shown` meets its contract: by the test. Assumes nothing.
use mathlib.Core.Path.{sym, ◌∙◌}
use Rattle.plan_page.specs.Turns.{mask_kept, mask_hidden}
use Rattle.plan_page.proofs.mask_shown.Goals as goal

pub returns-then-not-in_group : goal.returns-then-not-in_group
returns-then-not-in_group c =
    let a = c.args in
    let h = c.in_group in
    mask_hidden a.settings.now a.g a.shard.0 a.mask (sym h.ensures ∙ c.if-not-in_group.true)

pub returns : goal.returns
returns c =
    let a = c.args in
    let h = c.in_group in
    mask_kept a.settings.now a.g a.shard.0 a.mask (sym h.ensures ∙ c.if-not-in_group.false)
