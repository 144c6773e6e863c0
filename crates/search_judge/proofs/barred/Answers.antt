-- Each test that bars the pair is one of the definition's; where none of them holds it is not barred. Assumes nothing.
use Prim.Native.Nat.{ℕ, ◌≤◌, ◌<◌, ◌+◌, ◌*◌, ◌/◌, ◌%◌}
use mathlib.Core.Path.{◌≡◌, subst}
use native.Mathlib.Omega.{arith}
use lib.ListN.{get_or}
use Rattle.search_judge.specs.Post.{barred_owned, barred_dear, barred_full, unbarred}
use Rattle.search_judge.proofs.barred.Goals as goal

pub returns-then-owner-t-lt16 : goal.returns-then-owner-t-lt16
returns-then-owner-t-lt16 c = barred_owned _ _ _ c.if-owner-t-lt16.true

pub returns-then-costs-t-ge255 : goal.returns-then-costs-t-ge255
returns-then-costs-t-ge255 c =
    let s = c in
    let whole : s.args.t ≡ s.args.t / 32 * 32 + s.args.t % 32 = omega arith in
    barred_dear _ _ _ (subst (λ (t : ℕ). 255 ≤ get_or s.args.costs.now t 0) whole c.if-costs-t-ge255.true)

pub returns-then-size-wide : goal.returns-then-size-wide
returns-then-size-wide c = barred_full _ _ _ (omega (arith, c.if-size-wide.true, c.wide.ensures.0, c.size.ensures))

pub returns : goal.returns
returns c =
    let s = c in
    let whole : s.args.t ≡ s.args.t / 32 * 32 + s.args.t % 32 = omega arith in
    unbarred _ _ _ c.if-owner-t-lt16.false
    (subst (λ (t : ℕ). get_or s.args.costs.now t 0 < 255) whole (omega (arith, c.if-costs-t-ge255.false)))
    (omega (arith, c.if-size-wide.false, c.wide.ensures.0, c.size.ensures))
