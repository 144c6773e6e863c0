-- `report_rows::same_view` meets its contract: members first, then the masks of as many shards as there are.
use mathlib.Core.Path.{◌∙◌}
use Rattle.report_rows.specs.Comparisons.{view_differs, view_masks}
use Rattle.report_rows.proofs.same_view.Goals as goal

pub returns-then-c-v : goal.returns-then-c-v
returns-then-c-v c = let a = c.args in
    view_differs a.settings.now a.v a.c c.if-c-v.true

pub returns : goal.returns
returns c = let a = c.args in
    let n = c.shards-count in
    c.same_masks.ensures ∙ view_masks a.settings.now a.v a.c n.result n.ensures c.if-c-v.false
