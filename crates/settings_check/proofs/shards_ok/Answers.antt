-- `settings_check::shards_ok` meets its contract. The invariant: the shards below s are right.
use mathlib.Core.Path.{sym, ◌∙◌}
use native.Mathlib.Omega.{arith}
use Rattle.base_laws.specs.Below.{all_none}
use Rattle.base_laws.proofs.Below.{all_more, all_fails, all_fewer}
use Rattle.settings_values.specs.Definitions.{shards, shard_ok, shards_ok}
use Rattle.settings_check.proofs.shards_ok.Goals as goal

pub loop-s-init : goal.loop-s-init
loop-s-init c = all_none (shard_ok c.args.settings.now)

pub returns-then-not-shard_ok : goal.returns-then-not-shard_ok
unfolding shards_ok
returns-then-not-shard_ok c = let σ = c.args.settings.now in
    let s = c.loop-s.s in
    let k = c.shard_ok in
    sym (all_fails (shards σ) (shard_ok σ) s (omega arith) (sym k.ensures ∙ c.if-not-shard_ok.true))

pub loop-s-preserved : goal.loop-s-preserved
loop-s-preserved c = let σ = c.args.settings.now in
    let s = c.loop-s.s in
    let k = c.shard_ok in all_more s (shard_ok σ) c.loop-s.invariant (sym k.ensures ∙ c.if-not-shard_ok.false)

pub returns : goal.returns
unfolding shards_ok
returns c = let σ = c.args.settings.now in
    sym (all_fewer (shards σ) c.loop-s.s (shard_ok σ) (omega arith) c.loop-s.invariant)
