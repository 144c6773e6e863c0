-- The row is sifted by the limits that the weights give. Assumes nothing.
use mathlib.Core.List.{[]}
use Rattle.search_laws.specs.Tables.{case_of}
use Rattle.search_bounds.specs.Post.{weights_of}
use Rattle.search_bounds.specs.Rows.{row_cut}
use Rattle.search_bounds.proofs.cut_row.Goals as goal

pub returns-in-Some : goal.returns-in-Some
returns-in-Some c = λ e.
    let a = c.args in
    row_cut (case_of a.sets.now [] [] a.costs.now 0) (weights_of a.wants.now a.rooms.now a.nodes.now a.pairs.now)
    a.free a.t a.low a.high a.i c.based-u.result c.large-h.result c.floor.result c.floor-2.result
    c.onward.result _ a.rows.now
    c.based-u.ensures.0 c.large-h.ensures.0 c.floor.ensures c.floor-2.ensures c.onward.ensures c.in-Some.ensures
