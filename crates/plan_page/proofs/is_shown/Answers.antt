-- `plan_page::is_shown` meets its contract: by the two tests. Assumes nothing.
use mathlib.Core.Path.{sym, ◌∙◌}
use Rattle.plan_page.specs.Turns.{other_shard, own_shard}
use Rattle.plan_page.proofs.is_shown.Goals as goal

pub returns-then-not-in_group : goal.returns-then-not-in_group
returns-then-not-in_group c =
    let a = c.args in
    let h = c.in_group in
    other_shard a.settings.now a.g a.shard.0 a.holder.0 (sym h.ensures ∙ c.if-not-in_group.true)

pub returns : goal.returns
returns c =
    let a = c.args in
    let h = c.in_group in
    own_shard a.settings.now a.g a.shard.0 a.holder.0 (sym h.ensures ∙ c.if-not-in_group.false)
