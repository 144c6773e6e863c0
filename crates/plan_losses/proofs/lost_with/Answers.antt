-- `plan_losses::lost_with` meets its contract: the node is not held, its set is tight, its loss does no harm, or it means waiting. Assumes nothing.
use Prim.Native.Nat.{ℕ, ◌+◌, ◌^◌, ◌<◌}
use mathlib.Core.Bool.{true}
use mathlib.Core.Path.{◌≡◌, sym, ◌∙◌, subst}
use Rattle.base_laws.specs.Bools.{clash}
use Rattle.base_laws.specs.Definitions.{has}
use Rattle.base_laws.specs.Masks.{has_below, without_lt}
use Rattle.settings_values.specs.Definitions.{nodes, set_of}
use Rattle.plan_masks.specs.Masks.{quorum_in}
use Rattle.plan_masks.specs.Definitions.{Allowed}
use Rattle.plan_losses.specs.Losses.{quorums_in, LostBelow, lost_not, lost_with}
use Rattle.plan_losses.proofs.lost_with.Goals as goal

pub returns-then-not-has : goal.returns-then-not-has
returns-then-not-has c = let s = c in
    let a = s.args in
    lost_not a.settings.now a.held (quorums_in a.settings.now a.v a.masks.now) a.n a.lost
    (λ h. clash h (sym c.has.ensures ∙ c.if-not-has.true)) s.requires.lost_below

pub set_of-requires : goal.set_of-requires
set_of-requires c = let s = c in
    let h = c.has in
    record { settings = s.requires.settings; node_bound = has_below s.args.held (nodes s.args.settings.now) s.args.n s.requires.held_bound.0 (sym h.ensures ∙ c.if-not-has.false) }

pub returns-then-has : goal.returns-then-has
returns-then-has c = let s = c in
    let a = s.args in
    let h = c.has in
    let t = c.has-2 in
    let own : has a.held a.n ≡ true = sym h.ensures ∙ c.if-not-has.false in
    let in-tight : has a.tight (set_of a.settings.now a.n) ≡ true =
    subst (λ (x : ℕ). has a.tight x ≡ true) (c.wide.ensures ∙ c.set_of.ensures) (sym t.ensures ∙ c.if-has.true) in
    subst (LostBelow a.settings.now a.held (quorums_in a.settings.now a.v a.masks.now) (a.n + 1)) (sym c.with.ensures)
    (lost_with a.settings.now a.held (quorums_in a.settings.now a.v a.masks.now) a.n a.lost own
    (λ r. s.requires.tight.none a.n own in-tight r.placements) s.requires.lost_below)

pub waits-requires : goal.waits-requires
waits-requires c = let s = c in
    record { settings = s.requires.settings; held_bound = subst (λ (x : ℕ). x < 2 ^ nodes s.args.settings.now) (sym c.without.ensures) (without_lt (nodes s.args.settings.now) s.args.held s.args.n s.requires.held_bound.0) }

pub returns-then-not-waits : goal.returns-then-not-waits
returns-then-not-waits c = let s = c in
    let a = s.args in
    let w = c.waits in
    let e = c.without.ensures in
    lost_not a.settings.now a.held (quorums_in a.settings.now a.v a.masks.now) a.n a.lost
    (λ h. subst (λ (x : ℕ). Allowed a.settings.now x (quorum_in a.settings.now a.v x a.masks.now)) e (w.ensures.some (c.if-not-waits.true)))
    s.requires.lost_below

pub returns : goal.returns
returns c = let s = c in
    let a = s.args in
    let w = c.waits in
    let e = c.without.ensures in
    let h = c.has in
    subst (LostBelow a.settings.now a.held (quorums_in a.settings.now a.v a.masks.now) (a.n + 1)) (sym c.with-2.ensures)
    (lost_with a.settings.now a.held (quorums_in a.settings.now a.v a.masks.now) a.n a.lost
    (sym h.ensures ∙ c.if-not-has.false)
    (λ r. w.ensures.none (c.if-not-waits.false)
    (subst (λ (x : ℕ). Allowed a.settings.now x (quorum_in a.settings.now a.v x a.masks.now)) (sym e) r)) s.requires.lost_below)
