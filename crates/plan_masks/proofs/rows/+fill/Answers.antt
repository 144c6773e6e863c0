-- `plan_masks::rows::fill` meets its contract: the row of one mask, or those with the last undecided node down and then up. The undecided nodes fall.
use Rattle.std.proofs.Common.{◌≡◌, ℕ, ◌+◌, ◌-◌, ◌<◌, sym, subst, arith}
use Rattle.plan_masks.specs.Rows.{masks_say, room, first_mask, mask_place, filled_one, filled_two}
use Rattle.plan_masks.proofs.rows.+fill.Goals as goal

pub bounds-rows-up : goal.bounds-rows-up
bounds-rows-up t c =
    let p = c.requires in
    mask_place _ c.args.up p.settings_bound.0 (first_mask _ c.args.undecided c.args.up p.undecided_bound)

pub returns-then-undecided-eq0-clause-rows_filled : goal.returns-then-undecided-eq0-clause-rows_filled
returns-then-undecided-eq0-clause-rows_filled t c =
    let a = c.args in
    let p = c.requires in
    let l = first_mask _ a.undecided a.up p.undecided_bound in
    filled_one a.settings.now (masks_say a.settings.now a.v a.masks.now) a.undecided a.up c.number.result a.rows.now
    c.if-undecided-eq0.true (subst (λ (x : ℕ). a.up < x) (sym p.settings_bound.2) (mask_place _ a.up p.settings_bound.0 l)) c.number.ensures

pub fill-requires : goal.fill-requires
fill-requires t c =
    let a = c.args in
    let p = c.requires in
    let m : a.undecided ≡ a.undecided - 1 + 1 = omega (arith, c.if-undecided-eq0.false) in
    let r = room _ a.undecided (a.undecided - 1) a.up p.settings_bound.0 p.settings_bound.1 p.undecided_bound m in
    (omega (arith, c.decreases, m), (p.settings, ((p.settings_bound.0, omega (arith, p.settings_bound.1), p.settings_bound.2), r.low)))

pub fill-requires-2 : goal.fill-requires-2
fill-requires-2 t c =
    let a = c.args in
    let p = c.requires in
    let m : a.undecided ≡ a.undecided - 1 + 1 = omega (arith, c.if-undecided-eq0.false) in
    let r = room _ a.undecided (a.undecided - 1) a.up p.settings_bound.0 p.settings_bound.1 p.undecided_bound m in
    (omega (arith, c.decreases, m), (p.settings, ((p.settings_bound.0, omega (arith, p.settings_bound.1), c.fill.ensures.rows_len), omega (arith, r.high, c.above.ensures))))

pub returns-clause-rows_filled : goal.returns-clause-rows_filled
returns-clause-rows_filled t c =
    let a = c.args in
    let m : a.undecided ≡ a.undecided - 1 + 1 = omega (arith, c.if-undecided-eq0.false) in
    filled_two a.settings.now (masks_say a.settings.now a.v a.masks.now) a.undecided (a.undecided - 1) a.up
    c.above.result a.rows.now _ _ m c.above.ensures c.fill.ensures.rows_filled c.fill-2.ensures.rows_filled
