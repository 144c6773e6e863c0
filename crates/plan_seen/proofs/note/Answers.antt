-- `plan_seen::note` meets its contract. The invariant: the shards below s are renewed.
use Prim.Native.Nat.{ℕ}
use mathlib.Core.Path.{◌≡◌, subst}
use native.Mathlib.Omega.{arith}
use Rattle.settings_values.specs.Definitions.{shards}
use Rattle.plan_seen.specs.Nodes.{RenewedBelow, renewed_none, renewed_more}
use Rattle.plan_seen.proofs.note.Goals as goal

pub loop-s-init : goal.loop-s-init
loop-s-init c = (c.requires.holders_len.0, c.requires.holders_len.1, λ σ v t d told em et eg all. renewed_none v t d c.args.turn.node.0 c.args.holders.now c.args.tops.now)

pub note_shard-requires : goal.note_shard-requires
note_shard-requires c = let s = c in
    let l = c.loop-s in
    record { holders_len = (l.invariant.0, l.invariant.1); last_bound = (s.requires.last_bound.0, omega (arith, s.requires.last_bound.1, c.loop-s-test.true)) }

pub loop-s-preserved : goal.loop-s-preserved
loop-s-preserved c = let s = c in
    let a = s.args in
    let l = c.loop-s in
    let k = c.note_shard.ensures in (
      k.holders_len_2.0,
      k.holders_len_2.1,
      λ σ v t d told em et eg all.
          renewed_more v t d a.turn.node.0 l.s a.holders.now a.tops.now l.holders l.tops _ _ (l.invariant.2 σ v t d told em et eg all)
          (k.by_index σ v t d told em et eg (omega (arith, all, c.loop-s-test.true))),
    )

pub returns : goal.returns
returns c = let a = c.args in
    let l = c.loop-s in (record {
      holders_len_2 = (l.invariant.0, l.invariant.1);
      by_index = λ σ v t d told em et eg all.
          let z : l.s ≡ shards σ = omega (arith, all, l.auto.s-end, c.loop-s-test.false) in
          subst (λ (x : ℕ). RenewedBelow v t d a.turn.node.0 x a.holders.now a.tops.now l.holders l.tops) z (l.invariant.2 σ v t d told em et eg all);
    })
