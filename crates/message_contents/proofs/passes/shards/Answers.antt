-- `message_contents::passes::shards` meets its contract. The invariant: the records below j pass.
use mathlib.Core.Path.{◌≡◌}
use mathlib.Core.Bool.{true, false}
use mathlib.Core.List.{List}
use Prim.Native.Nat.{ℕ, ◌<◌, ◌≤◌}
use native.Mathlib.Omega.{arith}
use borrow.Author.Tests.{le-ltb, lt-ltb}
use Rattle.base_laws.specs.Below.{all_none}
use Rattle.base_laws.proofs.Below.{all_more, all_fewer}
use Rattle.message_contents.specs.Passes.{failing_at, failing_nowhere}
use Rattle.message_format.specs.Definitions.{record_shard, shard_at}
use Rattle.settings_values.specs.Definitions as Definitions
use Rattle.message_contents.proofs.passes.shards.Goals as goal

module _ (σ b : List ℕ) (j count s : ℕ) (e : count ≡ Definitions.shards σ) (f : s ≡ record_shard b j) where
  passes : s < count → shard_at σ b j ≡ true
  unfolding shard_at
  passes l = lt-ltb (record_shard b j) (Definitions.shards σ) (omega arith)

  fails : count ≤ s → shard_at σ b j ≡ false
  unfolding shard_at
  fails l = le-ltb (record_shard b j) (Definitions.shards σ) (omega arith)

pub loop-j-init : goal.loop-j-init
loop-j-init c = let a = c.args in all_none (shard_at a.settings.now a.c.now.body)

pub returns-then-count-shard : goal.returns-then-count-shard
returns-then-count-shard c = let a = c.args in
    let l = c.loop-j in
    failing_at a.c.now.len (shard_at a.settings.now a.c.now.body) l.j (omega arith) l.invariant
    (fails a.settings.now a.c.now.body l.j _ _ c.shards-count.ensures c.shard-shard.ensures c.if-count-shard.true)

pub loop-j-preserved : goal.loop-j-preserved
loop-j-preserved c = let a = c.args in
    let l = c.loop-j in all_more l.j (shard_at a.settings.now a.c.now.body) l.invariant
    (passes a.settings.now a.c.now.body l.j _ _ c.shards-count.ensures c.shard-shard.ensures c.if-count-shard.false)

pub returns : goal.returns
returns c = let a = c.args in
    let ok = shard_at a.settings.now a.c.now.body in
    failing_nowhere a.c.now.len ok (all_fewer a.c.now.len c.loop-j.j ok (omega arith) c.loop-j.invariant)
