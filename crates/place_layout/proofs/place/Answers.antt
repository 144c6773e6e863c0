-- `place_layout::place` meets its contract. The invariant: the subgroups below g are placed. Assumes nothing.
use Prim.Native.Nat.{ℕ}
use mathlib.Core.Path.{◌≡◌, refl, subst}
use native.Mathlib.Nat.{le_antisymm}
use native.Mathlib.Omega.{arith}
use lib.ListN.{get_or}
use borrow.Author.Tests.{not-true, not-false}
use Rattle.base_laws.specs.Bools.{clash}
use Rattle.place_layout.specs.Post.{LaidSoFar}
use Rattle.place_layout.specs.Steps.{stage_start}
use Rattle.place_layout.proofs.place.Goals as goal

pub loop-g-init : goal.loop-g-init
loop-g-init c = (refl, stage_start refl refl refl)

pub place_group-placed-requires : goal.place_group-placed-requires
place_group-placed-requires c =
    let p = c.requires in record { settings = p.settings; held_bound = p.held_bound; sheet_value = c.sheet-sheet.ensures; g_bound = omega arith; laid_so_far = c.loop-g.invariant.1 }

pub returns-then-not-placed : goal.returns-then-not-placed
returns-then-not-placed c =
    let g = c.place_group-placed in
    record {
      laid = λ e. clash e (not-true c.place_group-placed.result.found c.if-not-placed.true);
      unplaced = λ e. g.ensures.unplaced e;
    }

pub loop-g-preserved : goal.loop-g-preserved
loop-g-preserved c =
    let g = c.place_group-placed in
    let e = (not-false c.place_group-placed.result.found c.if-not-placed.false) in (e, g.ensures.more e)

pub returns : goal.returns
returns c =
    let a = c.args in
    let l = c.loop-g in
    let four : l.g ≡ 4 = le_antisymm (omega arith) (omega arith) in
    record {
      laid = λ e. (subst (λ (k : ℕ). LaidSoFar a.settings.now a.held (λ s. get_or a.old.now s 0) k l.placed) four l.invariant.1).laid;
      unplaced = λ e. clash l.invariant.0 e;
    }
