-- `plan_page::holder_shown` meets its contract: the holder where it is shown. Assumes nothing.
use mathlib.Core.Path.{sym, ◌∙◌}
use Rattle.plan_page.specs.Turns.{holder_kept, holder_hidden}
use Rattle.plan_page.proofs.holder_shown.Goals as goal

pub returns-then-not-is_shown : goal.returns-then-not-is_shown
returns-then-not-is_shown c =
    let a = c.args in
    let h = c.is_shown in
    holder_hidden a.settings.now a.g a.shard.0 a.holder.0 (sym h.ensures ∙ c.if-not-is_shown.true)

pub returns : goal.returns
returns c =
    let a = c.args in
    let h = c.is_shown in
    holder_kept a.settings.now a.g a.shard.0 a.holder.0 (sym h.ensures ∙ c.if-not-is_shown.false)
