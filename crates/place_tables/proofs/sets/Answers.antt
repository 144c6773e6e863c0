-- `place_tables::sets` meets its contract. The invariant: the entries below n are filled in. Assumes nothing.
use native.Mathlib.Omega.{arith}
use Rattle.base_laws.proofs.Tables.{fill_start, fill_turn, fill_end}
use Rattle.place_laws.specs.Cases.{set_in}
use Rattle.place_tables.proofs.sets.Goals as goal

pub loop-n-init : goal.loop-n-init
loop-n-init c = let a = c.args in fill_start 32 0 (set_in a.settings.now)

pub loop-n-preserved : goal.loop-n-preserved
loop-n-preserved c =
    let a = c.args in
    let l = c.loop-n in fill_turn 32 0 (set_in a.settings.now) l.n l.table c.set_at.result (omega arith) l.invariant c.set_at.ensures

pub returns : goal.returns
returns c =
    let a = c.args in
    let l = c.loop-n in fill_end 32 0 (set_in a.settings.now) l.n l.table (omega arith) (omega arith) l.invariant
