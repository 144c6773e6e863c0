-- `state_planner::after_report` meets its contract: the node is held and its view remembered. Assumes nothing.
use Prim.Native.Nat.{ℕ}
use mathlib.Core.Path.{ap₂}
use Rattle.report_rows.specs.declared.latest.Latest.{Latest}
use Rattle.state_planner.specs.Definitions.{keeping}
use Rattle.state_planner.proofs.after_report.Goals as goal

pub returns : goal.returns
unfolding keeping
returns c =
    let a = c.args in
    ap₂ (λ (h : ℕ) (m : Latest). keeping a.x a.taken.kept a.taken.termination h m) c.with-held.ensures c.note-latest.ensures
