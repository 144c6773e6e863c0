-- `message_contents::passes::sequence` meets its contract. The invariant: the records below j pass, and carried has the shards that
-- the node carries by them.
use mathlib.Core.Path.{sym, ap, ◌∙◌}
use Prim.Native.Nat.{ℕ}
use native.Mathlib.Omega.{arith}
use Rattle.message_contents.specs.Gathered.{gives_shard, with_shard}
use Rattle.base_laws.specs.Below.{all_none}
use Rattle.base_laws.proofs.Below.{all_more, all_fewer}
use Rattle.message_contents.specs.Passes.{failing_at, failing_nowhere}
use Rattle.message_format.specs.Definitions.{sequence_at}
use Rattle.message_contents.specs.Laws.{where_none, where_step}
use Rattle.message_contents.proofs.passes.sequence.Goals as goal

pub loop-j-init : goal.loop-j-init
loop-j-init c = let n = c.args.c.now.node.0 in
    let b = c.args.c.now.body in (sym (where_none (gives_shard n b) b), all_none (sequence_at n b))

pub returns-then-not-sequence_at : goal.returns-then-not-sequence_at
returns-then-not-sequence_at c = let a = c.args in
    let k = c.sequence_at in
    let l = c.loop-j in
    failing_at a.c.now.len (sequence_at a.c.now.node.0 a.c.now.body) l.j (omega arith) l.invariant.1 (sym k.ensures ∙ c.if-not-sequence_at.true)

pub carried_more-carried-requires : goal.carried_more-carried-requires
carried_more-carried-requires c = (record { j_bound = omega arith; j_bound_2 = c.requires.small_shards c.loop-j.j (omega arith) })

pub loop-j-preserved : goal.loop-j-preserved
loop-j-preserved c = let a = c.args in
    let n = a.c.now.node.0 in
    let b = a.c.now.body in
    let k = c.sequence_at in
    let l = c.loop-j in (
      c.carried_more-carried.ensures
          ∙ ap (λ (m : ℕ). with_shard (gives_shard n b l.j) m b l.j) l.invariant.0
          ∙ sym (where_step (gives_shard n b) b l.j),
      all_more l.j (sequence_at n b) l.invariant.1 (sym k.ensures ∙ c.if-not-sequence_at.false),
    )

pub returns : goal.returns
returns c = let a = c.args in
    let ok = sequence_at a.c.now.node.0 a.c.now.body in
    failing_nowhere a.c.now.len ok (all_fewer a.c.now.len c.loop-j.j ok (omega arith) c.loop-j.invariant.1)
