-- `plan_losses::losses` meets its contract. The invariant: of the nodes below n the losses are noted. Assumes nothing.
use Prim.Native.Nat.{ℕ}
use mathlib.Core.Path.{◌≡◌, subst}
use native.Mathlib.Omega.{arith}
use Rattle.settings_values.specs.Definitions.{nodes}
use Rattle.plan_losses.specs.Losses.{quorums_in, LostBelow, lost_none, lost_all}
use Rattle.plan_losses.proofs.losses.Goals as goal

pub loop-n-init : goal.loop-n-init
loop-n-init c = let a = c.args in lost_none a.settings.now a.held (quorums_in a.settings.now a.v a.masks.now)

pub lost_with-lost-requires : goal.lost_with-lost-requires
lost_with-lost-requires c = let s = c in
    record { settings = s.requires.settings; held_bound = (s.requires.held_bound, c.loop-n-test.true); tight = c.tight_sets-tight.ensures; lost_below = c.loop-n.invariant }

pub loop-n-preserved : goal.loop-n-preserved
loop-n-preserved c = c.lost_with-lost.ensures

pub returns : goal.returns
returns c = let s = c in
    let a = s.args in
    let l = c.loop-n in
    let z : l.n ≡ 32 = omega (arith, l.auto.n-end, c.loop-n-test.false) in
    lost_all a.settings.now a.held (quorums_in a.settings.now a.v a.masks.now) l.lost (nodes a.settings.now) s.requires.held_bound s.requires.settings.sizes.nodes_to
    (subst (λ (k : ℕ). LostBelow a.settings.now a.held (quorums_in a.settings.now a.v a.masks.now) k l.lost) z l.invariant)
