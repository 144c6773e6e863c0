-- `place_groups::sets_of` meets its contract. The invariant: the sets seen are those of the nodes below n in the mask. Assumes nothing.
use Prim.Native.Nat.{ℕ}
use mathlib.Core.Path.{ap, ◌∙◌}
use native.Mathlib.Omega.{arith}
use Rattle.place_groups.specs.Sets.{seen_with, sets_none, sets_more, sets_all}
use Rattle.place_groups.proofs.sets_of.Goals as goal

pub loop-n-init : goal.loop-n-init
loop-n-init c = let a = c.args in sets_none a.settings.now a.mask

pub loop-n-preserved : goal.loop-n-preserved
loop-n-preserved c =
    let a = c.args in
    let l = c.loop-n in c.seen_with-seen.ensures ∙ (ap (λ (m : ℕ). seen_with a.settings.now a.mask m l.n) l.invariant ∙ sets_more a.settings.now a.mask l.n)

pub returns : goal.returns
returns c =
    let a = c.args in
    let l = c.loop-n in
    l.invariant ∙ sets_all a.settings.now a.mask l.n (omega (arith, c.nodes-count.ensures))
