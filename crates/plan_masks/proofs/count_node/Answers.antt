-- `plan_masks::count_node` meets its contract. The invariant: the masks of the shards below s have the node, the others are as they were.
use Prim.Native.Nat.{ℕ, ◌<◌}
use mathlib.Core.List.{List}
use mathlib.Core.Path.{◌≡◌, sym, ap, ◌∙◌, subst}
use native.Mathlib.Omega.{arith}
use lib.ListN.{get_or, length-set}
use Rattle.base_laws.specs.Tables.{filled, filled_none, get_or_filled_rest}
use Rattle.base_laws.proofs.Tables.{filled_turn}
use Rattle.report_views.specs.Definitions.{node_at}
use Rattle.plan_masks.specs.Counting.{counted_with, counted_at}
use Rattle.plan_masks.proofs.count_node.Goals as goal

pub loop-s-init : goal.loop-s-init
loop-s-init c = let s = c in
    let m = s.args.masks.now in (s.requires.masks_len.0, sym (filled_none (counted_at s.args.seen.holders s.args.node.0 m) m))

pub loop-s-preserved : goal.loop-s-preserved
loop-s-preserved c = let s = c in
    let l = c.loop-s in
    let m = s.args.masks.now in
    let f = counted_at s.args.seen.holders s.args.node.0 m in
    let few : l.s < s.args.count = c.loop-s-test.true in
    let old : get_or l.masks l.s 0 ≡ get_or m l.s 0 = ap (λ (x : List ℕ). get_or x l.s 0) l.invariant.1 ∙ get_or_filled_rest l.s f m l.s 0 (omega arith) in (
      length-set l.masks l.s c.counted_with.result ∙ l.invariant.0,
      filled_turn l.s f m l.masks c.counted_with.result (omega (arith, few, s.requires.masks_len.0, s.requires.count_bound)) l.invariant.1
          (c.counted_with.ensures ∙ ap (λ (x : ℕ). counted_with x (node_at s.args.seen.holders l.s) s.args.node.0) old),
    )

pub returns : goal.returns
returns c = let s = c in
    let l = c.loop-s in
    let m = s.args.masks.now in
    let e : l.s ≡ s.args.count = omega (arith, l.auto.s-end, c.loop-s-test.false) in
    subst (λ (k : ℕ). l.masks ≡ filled k (counted_at s.args.seen.holders s.args.node.0 m) m) e l.invariant.1
