-- `place_tables::in_group` meets its contract: the definition's two tests, one after the other. Assumes nothing.
use mathlib.Core.Path.{sym, ap, ◌∙◌}
use Prim.Native.Nat.{ℕ}
use native.Mathlib.Omega.{arith}
use lib.Dec.{eqb}
use Rattle.place_laws.specs.Cases.{group_past, group_is}
use Rattle.place_tables.proofs.in_group.Goals as goal

pub returns-then-shard-shards : goal.returns-then-shard-shards
returns-then-shard-shards c =
    let a = c.args in sym (group_past a.settings.now a.g a.shard.0 (omega (arith, c.shards.ensures)))

pub returns : goal.returns
returns c =
    let a = c.args in
    ap (λ (x : ℕ). eqb x a.g) c.subgroup.ensures ∙ sym (group_is a.settings.now a.g a.shard.0 (omega (arith, c.shards.ensures)))
