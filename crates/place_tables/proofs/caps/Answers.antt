-- `place_tables::caps` meets its contract. The invariant: the entries below s are filled in. Assumes nothing.
use native.Mathlib.Omega.{arith}
use Rattle.base_laws.proofs.Tables.{fill_start, fill_turn, fill_end}
use Rattle.place_laws.specs.Cases.{cap_in}
use Rattle.place_tables.proofs.caps.Goals as goal

pub loop-s-init : goal.loop-s-init
loop-s-init c = let a = c.args in fill_start 16 0 (cap_in a.settings.now a.g)

pub loop-s-preserved : goal.loop-s-preserved
loop-s-preserved c =
    let a = c.args in
    let l = c.loop-s in fill_turn 16 0 (cap_in a.settings.now a.g) l.s l.table c.cap_at.result (omega arith) l.invariant c.cap_at.ensures

pub returns : goal.returns
returns c =
    let a = c.args in
    let l = c.loop-s in fill_end 16 0 (cap_in a.settings.now a.g) l.s l.table (omega arith) (omega arith) l.invariant
