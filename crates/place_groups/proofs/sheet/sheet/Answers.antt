-- `place_groups::sheet::sheet` meets its contract. The invariant: the rows below s are filled in, each from the sets of its shard's held old
-- members and of all held nodes. Assumes nothing.
use Prim.Native.Nat.{ℕ}
use mathlib.Core.Path.{◌∙◌}
use mathlib.Core.List.{List}
use native.Mathlib.Omega.{arith}
use lib.ListN.{get_or, replicate}
use Rattle.base_laws.specs.Definitions.{tabulate}
use Rattle.base_laws.proofs.Tables.{fill_start, fill_turn, fill_end}
use Rattle.place_groups.specs.Sheet.{sheet_at, sheet_of}
use Rattle.place_groups.specs.Laws.{row_is}
use Rattle.place_groups.proofs.sheet.sheet.Goals as goal

-- the row of shard s
abbrev row_of : List ℕ → ℕ → List ℕ → ℕ → List ℕ
row_of σ held old s = tabulate 16 (sheet_at σ held (λ i. get_or old i 0) s)

-- no row yet
abbrev blank : List ℕ
blank = replicate 16 2

pub loop-s-init : goal.loop-s-init
loop-s-init c = let a = c.args in fill_start 16 blank (row_of a.settings.now a.held a.old.now)

pub loop-s-preserved : goal.loop-s-preserved
loop-s-preserved c =
    let a = c.args in
    let l = c.loop-s in fill_turn 16 blank (row_of a.settings.now a.held a.old.now) l.s l.rows c.row.result (omega arith) l.invariant
    (c.row.ensures
    ∙ row_is a.settings.now a.held (λ i. get_or a.old.now i 0) c.sets_of-stay.result c.sets_of-any.result l.s
    c.sets_of-stay.ensures c.sets_of-any.ensures)

pub returns : goal.returns
unfolding sheet_of
returns c =
    let a = c.args in
    let l = c.loop-s in
    fill_end 16 blank (row_of a.settings.now a.held a.old.now) l.s l.rows (omega arith) (omega arith) l.invariant
