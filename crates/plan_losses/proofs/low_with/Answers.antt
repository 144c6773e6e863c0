-- `plan_losses::low_with` meets its contract: by the set's count. Assumes nothing.
use Prim.Native.Nat.{◌+◌}
use mathlib.Core.Path.{sym, subst}
use Rattle.plan_losses.specs.Needs.{LowBelow, low_not, low_with}
use Rattle.plan_losses.proofs.low_with.Goals as goal

pub returns-then-counts-f : goal.returns-then-counts-f
returns-then-counts-f c = let s = c in
    let a = s.args in low_not a.counts.now a.j a.f a.sets s.requires.low_below

pub returns : goal.returns
returns c = let s = c in
    let a = s.args in
    subst (LowBelow a.counts.now a.j (a.f + 1)) (sym c.with.ensures) (low_with a.counts.now a.j a.f a.sets c.if-counts-f.false s.requires.low_below)
