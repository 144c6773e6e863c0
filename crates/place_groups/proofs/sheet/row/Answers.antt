-- `place_groups::sheet::row` meets its contract. The invariant: the entries below f are filled in. Assumes nothing.
use native.Mathlib.Omega.{arith}
use Rattle.base_laws.proofs.Tables.{fill_start, fill_turn, fill_end}
use Rattle.place_groups.specs.Laws.{entry_by}
use Rattle.place_groups.proofs.sheet.row.Goals as goal

pub loop-f-init : goal.loop-f-init
loop-f-init c = let a = c.args in fill_start 16 2 (entry_by a.settings.now a.stay a.any a.s.0)

pub loop-f-preserved : goal.loop-f-preserved
loop-f-preserved c =
    let a = c.args in
    let l = c.loop-f in fill_turn 16 2 (entry_by a.settings.now a.stay a.any a.s.0) l.f l.r c.entry.result (omega arith) l.invariant c.entry.ensures

pub returns : goal.returns
returns c =
    let a = c.args in
    let l = c.loop-f in
    fill_end 16 2 (entry_by a.settings.now a.stay a.any a.s.0) l.f l.r (omega arith) (omega arith) l.invariant

pub bounds-r-f : goal.bounds-r-f
bounds-r-f c = omega arith
