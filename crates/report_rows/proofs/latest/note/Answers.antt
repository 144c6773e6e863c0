-- `report_rows::latest::note` meets its contract. The invariant: the entries below n are filled in. Assumes nothing.
use mathlib.Core.List.{List}
use mathlib.Core.Path.{ap}
use native.Mathlib.Omega.{arith}
use Rattle.base_laws.proofs.Tables.{fill_start, fill_turn, fill_end}
use Rattle.base_ids.specs.declared.View.{View}
use Rattle.report_rows.specs.Definitions.{noted_at, noted}
use Rattle.report_rows.proofs.latest.note.Goals as goal

pub loop-n-init : goal.loop-n-init
loop-n-init c = let a = c.args in fill_start 32 (record { 0 = 0 }) (noted_at a.latest a.node.0 a.view.0)

pub loop-n-preserved : goal.loop-n-preserved
loop-n-preserved c =
    let a = c.args in
    let l = c.loop-n in fill_turn 32 (record { 0 = 0 }) (noted_at a.latest a.node.0 a.view.0) l.n l.views c.noted_at.result (omega arith) l.invariant c.noted_at.ensures

pub returns : goal.returns
unfolding noted
returns c =
    let a = c.args in
    let l = c.loop-n in
    ap (λ (v : List View). record { views = v })
    (fill_end 32 (record { 0 = 0 }) (noted_at a.latest a.node.0 a.view.0) l.n l.views l.auto.n-end (omega arith) l.invariant)
