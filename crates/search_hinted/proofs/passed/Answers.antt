-- By the test. Assumes nothing.
use Prim.Native.Nat.{◌+◌, ◌/◌}
use mathlib.Core.Path.{refl, sym, ◌∙◌}
use mathlib.Core.Logic.{inl, inr}
use borrow.Author.Tests.{eqb-true}
use Rattle.search_laws.specs.Order.{shard_end}
use Rattle.search_hinted.proofs.passed.Goals as goal

pub returns-then-same_shard : goal.returns-then-same_shard
returns-then-same_shard c =
    let p = c.args.p in
    inr (refl, eqb-true (shard_end (p / 2 + 1)) (shard_end (p / 2)) (sym c.same_shard.ensures ∙ c.if-same_shard.true))

pub returns-else-same_shard : goal.returns-else-same_shard
returns-else-same_shard c = inl refl
