-- `report_rows::latest::row18` meets its contract: the views are compared. Assumes nothing.
use Prim.Native.Nat.{ℕ}
use mathlib.Core.Path.{ap}
use lib.Dec.{leb}
use Rattle.report_rows.proofs.latest.row18.Goals as goal

pub returns : goal.returns
returns c =
    let a = c.args in
    ap (λ (v : ℕ). leb v a.view.0) c.latest_at-earlier.ensures
