-- `report_rows::same_termination` meets its contract: the positions are compared for as many shards as there are.
use mathlib.Core.Path.{◌∙◌}
use Rattle.report_rows.specs.Comparisons.{term_positions}
use Rattle.report_rows.proofs.same_termination.Goals as goal

pub returns : goal.returns
returns c = let a = c.args in
    let n = c.shards-count in
    c.same_positions.ensures ∙ term_positions a.settings.now a.t a.c n.result n.ensures
