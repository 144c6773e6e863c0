-- `message_contents::records::carried_by` meets its contract. The invariant: the mask has the shards carried by the records below j.
use mathlib.Core.Path.{◌≡◌, sym, ap, ◌∙◌}
use Prim.Native.Nat.{ℕ}
use native.Mathlib.Omega.{arith}
use Rattle.message_contents.specs.Gathered.{gives_shard, with_shard}
use Rattle.message_format.specs.Definitions.{carried_by}
use Rattle.message_contents.specs.Laws.{where_none, where_step}
use Rattle.message_contents.proofs.records.carried_by.Goals as goal

pub loop-j-init : goal.loop-j-init
loop-j-init c = sym (where_none (gives_shard c.args.c.now.node.0 c.args.c.now.body) c.args.c.now.body)

pub carried_more-mask-requires : goal.carried_more-mask-requires
carried_more-mask-requires c = (record { j_bound = omega arith; j_bound_2 = c.requires.small_shards c.loop-j.j (omega arith) })

pub loop-j-preserved : goal.loop-j-preserved
loop-j-preserved c = let a = c.args in
    let b = a.c.now.body in
    let l = c.loop-j in c.carried_more-mask.ensures
    ∙ ap (λ (m : ℕ). with_shard (gives_shard a.c.now.node.0 b l.j) m b l.j) l.invariant
    ∙ sym (where_step (gives_shard a.c.now.node.0 b) b l.j)

pub returns : goal.returns
returns c = let a = c.args in
    let l = c.loop-j in
    let e : l.j ≡ a.c.now.len = omega arith in
    l.invariant ∙ ap (λ (n : ℕ). carried_by a.c.now.node.0 a.c.now.body n) e
