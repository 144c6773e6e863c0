-- `place_tables::cap_at` meets its contract: a cap is at most 16, so it fits a byte. Assumes nothing.
use mathlib.Core.Path.{sym, ◌∙◌}
use native.Mathlib.Omega.{arith}
use Rattle.place_laws.specs.Cases.{group_shard, cap_of, cap_none}
use Rattle.place_tables.proofs.cap_at.Goals as goal

pub returns-then-not-in_group : goal.returns-then-not-in_group
returns-then-not-in_group c =
    let a = c.args in
    let i = c.in_group in sym (cap_none a.settings.now a.g a.s (sym i.ensures ∙ c.if-not-in_group.true))

pub cap-requires : goal.cap-requires
cap-requires c =
    let a = c.args in
    let i = c.in_group in
    record { sizes = c.requires.sizes; shard_bound = group_shard a.settings.now a.g a.s (sym i.ensures ∙ c.if-not-in_group.false) }

pub overflow_cast-result : goal.overflow_cast-result
overflow_cast-result c =
    let m = c in
    let a = m.args in
    let i = c.in_group in
    record { fits = omega (arith, c.cap.ensures, m.requires.cap_to a.s (group_shard a.settings.now a.g a.s (sym i.ensures ∙ c.if-not-in_group.false))) }

pub returns : goal.returns
returns c =
    let a = c.args in
    let i = c.in_group in
    c.cap.ensures ∙ sym (cap_of a.settings.now a.g a.s (sym i.ensures ∙ c.if-not-in_group.false))
