-- `plan_seen::member_ends` meets its contract. The invariant: the ends of the shards below s are stored.
use Prim.Native.Nat.{ℕ}
use mathlib.Core.Path.{◌∙◌}
use native.Mathlib.Omega.{arith}
use lib.ListN.{length-set, length-replicate}
use Rattle.plan_seen.specs.Quick.{ends_more}
use Rattle.plan_seen.proofs.member_ends.Goals as goal

pub loop-s-init : goal.loop-s-init
loop-s-init c = (length-replicate {A = ℕ} 16 0, λ j l. absurd (omega arith))

pub member_end-requires : goal.member_end-requires
member_end-requires c = omega (arith, c.requires, c.loop-s-test.true)

pub loop-s-preserved : goal.loop-s-preserved
loop-s-preserved c = let s = c in
    let a = s.args in
    let l = c.loop-s in
    let k = c.member_end in (length-set l.ends l.s k.result ∙ l.invariant.0, ends_more a.masks.now a.b.now a.last.now a.node.0 l.s k.result l.ends l.invariant.0 (omega (arith, s.requires, c.loop-s-test.true)) k.ensures l.invariant.1)

pub returns : goal.returns
returns c = let l = c.loop-s in
    λ s m. l.invariant.1 s (omega (arith, m, c.loop-s-test.false))
