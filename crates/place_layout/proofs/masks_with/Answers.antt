-- `place_layout::masks_with` meets its contract. The invariant: the masks below s are filled in. Assumes nothing.
use Prim.Native.Nat.{ℕ}
use mathlib.Core.List.{List}
use native.Mathlib.Omega.{arith}
use lib.ListN.{get_or}
use Rattle.base_laws.proofs.Tables.{fill_start, fill_turn, fill_end}
use Rattle.place_laws.specs.Adding.{mask_with, masks_with}
use Rattle.place_layout.proofs.masks_with.Goals as goal

-- the mask of shard s
abbrev at : List ℕ → ℕ → List ℕ → List ℕ → ℕ → ℕ
at σ g o masks s = mask_with σ g o (get_or masks s 0) s

pub loop-s-init : goal.loop-s-init
loop-s-init c = let a = c.args in fill_start 16 0 (at a.settings.now a.g a.owners.now a.masks.now)

pub loop-s-preserved : goal.loop-s-preserved
loop-s-preserved c =
    let a = c.args in
    let l = c.loop-s in fill_turn 16 0 (at a.settings.now a.g a.owners.now a.masks.now) l.s l.all c.mask_with.result (omega arith) l.invariant
    c.mask_with.ensures

pub returns : goal.returns
unfolding masks_with
returns c =
    let a = c.args in
    let l = c.loop-s in
    fill_end 16 0 (at a.settings.now a.g a.owners.now a.masks.now) l.s l.all (omega arith) (omega arith) l.invariant
