-- `message_contents::records::shards_of` meets its contract. The invariant: the mask has the shards of the records below j.
use mathlib.Core.Path.{◌≡◌, sym, ap, ◌∙◌}
use Prim.Native.Nat.{ℕ}
use native.Mathlib.Omega.{arith}
use Rattle.message_contents.specs.Gathered.{of_kind, with_shard}
use Rattle.message_format.specs.Definitions.{shards_of}
use Rattle.message_contents.specs.Laws.{where_none, where_step}
use Rattle.message_contents.proofs.records.shards_of.Goals as goal

pub loop-j-init : goal.loop-j-init
loop-j-init c = sym (where_none (of_kind c.args.k c.args.c.now.body) c.args.c.now.body)

pub shards_more-mask-requires : goal.shards_more-mask-requires
shards_more-mask-requires c = (record { j_bound = omega arith; j_bound_2 = c.requires.small_shards c.loop-j.j (omega arith) })

pub loop-j-preserved : goal.loop-j-preserved
loop-j-preserved c = let a = c.args in
    let b = a.c.now.body in
    let l = c.loop-j in c.shards_more-mask.ensures
    ∙ ap (λ (m : ℕ). with_shard (of_kind a.k b l.j) m b l.j) l.invariant
    ∙ sym (where_step (of_kind a.k b) b l.j)

pub returns : goal.returns
returns c = let a = c.args in
    let l = c.loop-j in
    let e : l.j ≡ a.c.now.len = omega arith in
    l.invariant ∙ ap (λ (n : ℕ). shards_of a.k a.c.now.body n) e
