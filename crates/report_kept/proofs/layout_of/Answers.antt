-- `report_kept::layout_of` meets its contract: the masks are those of as many shards as there are. Assumes nothing.
use mathlib.Core.List.{List}
use mathlib.Core.Path.{ap, ◌∙◌}
use Prim.Native.Nat.{ℕ}
use Rattle.report_kept.specs.Laws.{layout_by}
use Rattle.report_kept.proofs.layout_of.Goals as goal

pub returns : goal.returns
returns c =
    let a = c.args in
    let n = c.shards-count in
    ap (λ (l : List ℕ). record { number = a.c.view; members = a.c.members; masks = l }) c.masks_in.ensures
    ∙ layout_by a.settings.now a.c n.result n.ensures
