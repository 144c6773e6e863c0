-- `message_rows::shards::apart_below` meets its contract. The invariant: shard s is apart from the shards below t.
use mathlib.Core.Path.{sym, ◌∙◌}
use mathlib.Core.Bool.{Bool}
use mathlib.Core.List.{List}
use Prim.Native.Nat.{ℕ}
use native.Mathlib.Omega.{arith}
use lib.ListN.{get_or}
use Rattle.base_laws.specs.Below.{all_none}
use Rattle.base_laws.proofs.Below.{all_more, all_fails, all_fewer}
use Rattle.message_format.specs.Definitions.{shard_apart}
use Rattle.message_rows.proofs.shards.apart_below.Goals as goal

abbrev ok : List ℕ → List ℕ → ℕ → ℕ → Bool
ok σ m s = shard_apart σ (λ i. get_or m i 0) s

pub loop-t-init : goal.loop-t-init
loop-t-init c = let a = c.args in all_none (ok a.settings.now a.masks.now a.s.0)

pub returns-then-not-shard_apart : goal.returns-then-not-shard_apart
returns-then-not-shard_apart c = let a = c.args in
    let k = c.shard_apart in
    sym (all_fails a.s.0 (ok a.settings.now a.masks.now a.s.0) c.loop-t.t (omega arith)
    (sym k.ensures ∙ c.if-not-shard_apart.true))

pub loop-t-preserved : goal.loop-t-preserved
loop-t-preserved c = let a = c.args in
    let k = c.shard_apart in
    let l = c.loop-t in all_more l.t (ok a.settings.now a.masks.now a.s.0) l.invariant (sym k.ensures ∙ c.if-not-shard_apart.false)

pub returns : goal.returns
returns c = let a = c.args in
    let l = c.loop-t in
    sym (all_fewer a.s.0 l.t (ok a.settings.now a.masks.now a.s.0) (omega arith) l.invariant)
