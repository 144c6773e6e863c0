-- `place_rounds::improve` meets its contract. From 128 rounds on they are 128. The invariant: in the subgroups below g stands what the rounds reach there. Assumes nothing.
use Prim.Native.Nat.{ℕ, min}
use mathlib.Core.Path.{◌≡◌, refl, subst, subst⁻¹}
use native.Mathlib.Nat.{le_antisymm}
use native.Mathlib.Omega.{arith}
use lib.ListN.{get_or, replicate}
use borrow.Author.Tests.{not-true, not-false}
use Rattle.base_laws.specs.Bools.{clash}
use Rattle.place_rounds.specs.declared.PlacedWithin.{PlacedWithin}
use Rattle.place_rounds.specs.Post.{PlacementWithin, ReachedSoFar}
use Rattle.place_rounds.specs.Turns.{turns_start, turns_none, moved_fits, turns_more, turns_end}
use Rattle.place_rounds.proofs.improve.Goals as goal

pub finish-requires : goal.finish-requires
finish-requires c = let p = c.requires in record { settings = p.settings; held_bound = p.held_bound; sheet_value = c.sheet-sheet.ensures }

pub returns-then-rounds-ge128 : goal.returns-then-rounds-ge128
returns-then-rounds-ge128 c =
    let a = c.args in
    let e : 128 ≡ min a.rounds 128 = omega (arith, c.if-rounds-ge128.true) in
    subst (λ (n : ℕ). PlacementWithin a.settings.now a.held (λ s. get_or a.old.now s 0) n c.finish.result) e c.finish.ensures

pub loop-g-init : goal.loop-g-init
loop-g-init c =
    let a = c.args in
    let e : a.rounds ≡ min a.rounds 128 = omega (arith, c.if-rounds-ge128.false) in subst (λ (k : ℕ). ReachedSoFar a.settings.now a.held (λ s. get_or a.old.now s 0) k 0 (replicate 16 0) 0 0 a.rounds) e
    (turns_start a.settings.now a.held (λ s. get_or a.old.now s 0) a.rounds)

pub reach-one-requires : goal.reach-one-requires
reach-one-requires c = let p = c.requires in record { settings = p.settings; held_bound = p.held_bound; sheet_value = c.sheet-sheet.ensures }

pub returns-then-not-one : goal.returns-then-not-one
returns-then-not-one c =
    let m = c in
    let a = m.args in
    let p = m.requires in
    let l = c.loop-g in
    let r = c.reach-one in
    subst⁻¹ (λ (q : PlacedWithin). PlacementWithin a.settings.now a.held (λ s. get_or a.old.now s 0) (min a.rounds 128) q) c.nowhere.ensures
    (record {
      laid = λ e. clash e refl;
      unplaced = λ e.
          record {
            unplaced =
                record {
                  lowest = turns_none p.settings p.held_bound l.invariant c.loop-g-test.true (r.ensures.none (not-true c.reach-one.result.found c.if-not-one.true));
                  masks = refl;
                  total = refl;
                };
            gap = refl;
          };
    })

pub masks_with-masks-requires : goal.masks_with-masks-requires
masks_with-masks-requires c = c.requires.settings

pub group_moves-total-requires : goal.group_moves-total-requires
group_moves-total-requires c = c.requires.settings

pub overflow_add-total : goal.overflow_add-total
overflow_add-total c =
    let m = c in
    let a = m.args in
    let p = m.requires in
    let l = c.loop-g in
    let r = c.reach-one in
    let u = r.ensures.reached (not-false c.reach-one.result.found c.if-not-one.false) in
    omega (arith, l.invariant.small, c.loop-g-test.true, moved_fits p.settings p.held_bound l.invariant u c.masks_with-masks.ensures c.group_moves-total.ensures)

pub overflow_add-floor : goal.overflow_add-floor
overflow_add-floor c =
    let m = c in
    let a = m.args in
    let p = m.requires in
    let l = c.loop-g in
    let r = c.reach-one in
    let u = r.ensures.reached (not-false c.reach-one.result.found c.if-not-one.false) in
    let k = turns_more p.settings p.held_bound l.invariant u c.loop-g-test.true c.masks_with-masks.ensures c.group_moves-total.ensures in
    omega (arith, k.low, k.small, c.loop-g-test.true)

pub loop-g-preserved : goal.loop-g-preserved
loop-g-preserved c =
    let m = c in
    let a = m.args in
    let p = m.requires in
    let l = c.loop-g in
    let r = c.reach-one in
    let u = r.ensures.reached (not-false c.reach-one.result.found c.if-not-one.false) in turns_more p.settings p.held_bound l.invariant u c.loop-g-test.true c.masks_with-masks.ensures c.group_moves-total.ensures

pub overflow_cast-result : goal.overflow_cast-result
overflow_cast-result c = let l = c.loop-g in omega (arith, l.auto.g-end, l.invariant.low, l.invariant.small)

pub overflow_sub-result : goal.overflow_sub-result
overflow_sub-result c = let l = c.loop-g in omega (arith, l.invariant.low)

pub returns : goal.returns
returns c =
    let m = c in
    let a = m.args in
    let l = c.loop-g in
    let four : l.g ≡ 4 = le_antisymm l.auto.g-end (omega (arith, c.loop-g-test.false)) in
    record {
      laid = λ e.
          turns_end m.requires.settings m.requires.held_bound
          (subst (λ (k : ℕ). ReachedSoFar a.settings.now a.held (λ s. get_or a.old.now s 0) (min a.rounds 128) k l.masks l.total l.floor l.left) four l.invariant) _ refl;
      unplaced = λ e. clash refl e;
    }
