-- `place_rounds::finish` meets its contract. The invariant: in the subgroups below g stands what 128 rounds reach there. Assumes nothing.
use Prim.Native.Nat.{ℕ}
use mathlib.Core.Path.{◌≡◌, refl, subst, subst⁻¹}
use native.Mathlib.Nat.{le_antisymm}
use native.Mathlib.Omega.{arith}
use lib.ListN.{get_or}
use borrow.Author.Tests.{not-true, not-false}
use Rattle.base_laws.specs.Bools.{clash}
use Rattle.place_rounds.specs.declared.PlacedWithin.{PlacedWithin}
use Rattle.place_rounds.specs.Post.{PlacementWithin, ReachedSoFar}
use Rattle.place_rounds.specs.Turns.{turns_start, turns_end}
use Rattle.place_rounds.specs.Ends.{ends_none, ends_fits, ends_more}
use Rattle.place_rounds.proofs.finish.Goals as goal

pub loop-g-init : goal.loop-g-init
loop-g-init c =
    let a = c.args in (128, omega arith, turns_start a.settings.now a.held (λ s. get_or a.old.now s 0) 128)

pub reach_end-end-requires : goal.reach_end-end-requires
reach_end-end-requires c = c.requires

pub returns-then-not-end : goal.returns-then-not-end
returns-then-not-end c =
    let m = c in
    let a = m.args in
    let p = m.requires in
    let l = c.loop-g in
    let r = c.reach_end-end in
    subst⁻¹ (λ (q : PlacedWithin). PlacementWithin a.settings.now a.held (λ s. get_or a.old.now s 0) 128 q) c.nowhere.ensures
    (record {
      laid = λ e. clash e refl;
      unplaced = λ e.
          record {
            unplaced =
                record {
                  lowest = ends_none p.settings p.held_bound l.invariant c.loop-g-test.true (r.ensures.none (not-true c.reach_end-end.result.found c.if-not-end.true));
                  masks = refl;
                  total = refl;
                };
            gap = refl;
          };
    })

pub masks_with-masks-requires : goal.masks_with-masks-requires
masks_with-masks-requires c = c.requires.settings

pub group_moves-total-requires : goal.group_moves-total-requires
group_moves-total-requires c = c.requires.settings

pub overflow_add-total : goal.overflow_add-total
overflow_add-total c =
    let m = c in
    let p = m.requires in
    let l = c.loop-g in
    let r = c.reach_end-end in
    let u = r.ensures.ended (not-false c.reach_end-end.result.found c.if-not-end.false) in
    omega (arith, l.invariant.2.small, c.loop-g-test.true, ends_fits p.settings p.held_bound l.invariant u c.loop-g-test.true c.masks_with-masks.ensures c.group_moves-total.ensures)

pub overflow_add-floor : goal.overflow_add-floor
overflow_add-floor c =
    let m = c in
    let p = m.requires in
    let l = c.loop-g in
    let r = c.reach_end-end in
    let u = r.ensures.ended (not-false c.reach_end-end.result.found c.if-not-end.false) in
    let k = ends_more p.settings p.held_bound l.invariant u c.loop-g-test.true c.masks_with-masks.ensures c.group_moves-total.ensures in
    omega (arith, k.2.low, k.2.small, c.loop-g-test.true)

pub loop-g-preserved : goal.loop-g-preserved
loop-g-preserved c =
    let m = c in
    let p = m.requires in
    let l = c.loop-g in
    let r = c.reach_end-end in
    let u = r.ensures.ended (not-false c.reach_end-end.result.found c.if-not-end.false) in ends_more p.settings p.held_bound l.invariant u c.loop-g-test.true c.masks_with-masks.ensures c.group_moves-total.ensures

pub overflow_cast-result : goal.overflow_cast-result
overflow_cast-result c = let l = c.loop-g in omega (arith, l.auto.g-end, l.invariant.2.low, l.invariant.2.small)

pub overflow_sub-result : goal.overflow_sub-result
overflow_sub-result c = let l = c.loop-g in omega (arith, l.invariant.2.low)

pub returns : goal.returns
returns c =
    let m = c in
    let a = m.args in
    let l = c.loop-g in
    let four : l.g ≡ 4 = le_antisymm l.auto.g-end (omega (arith, c.loop-g-test.false)) in
    record {
      laid = λ e.
          turns_end m.requires.settings m.requires.held_bound
          (subst (λ (k : ℕ). ReachedSoFar a.settings.now a.held (λ s. get_or a.old.now s 0) 128 k l.masks l.total l.floor l.invariant.0) four l.invariant.2) _ refl;
      unplaced = λ e. clash refl e;
    }
