-- `place_tables::need_at` meets its contract: a need is at most 16, so it fits a byte. Assumes nothing.
use mathlib.Core.Path.{sym, ◌∙◌}
use Rattle.place_laws.specs.Cases.{group_shard, need-of, need_none}
use Rattle.place_tables.proofs.need_at.Goals as goal

pub returns-then-not-in_group : goal.returns-then-not-in_group
returns-then-not-in_group c =
    let a = c.args in
    let i = c.in_group in sym (need_none a.settings.now a.g a.s (sym i.ensures ∙ c.if-not-in_group.true))

pub need-requires : goal.need-requires
need-requires c =
    let a = c.args in
    let i = c.in_group in
    record { settings = c.requires; shard_bound = group_shard a.settings.now a.g a.s (sym i.ensures ∙ c.if-not-in_group.false) }

pub returns : goal.returns
returns c =
    let a = c.args in
    let i = c.in_group in
    c.need.ensures ∙ sym (need-of a.settings.now a.g a.s (sym i.ensures ∙ c.if-not-in_group.false))
