-- `report_rows::latest::noted_at` meets its contract: by whether the node is the one that reports. Assumes nothing.
use Prim.Native.Nat.{ℕ, max}
use mathlib.Core.Path.{ap, ◌∙◌}
use borrow.Author.Tests.{eq-eqb, ne_eqb}
use Rattle.report_rows.proofs.latest.noted_at.Goals as goal

pub returns-then-node-reporter : goal.returns-then-node-reporter
returns-then-node-reporter c =
    let a = c.args in
    rw (eq-eqb _ _ c.if-node-reporter.true)
    (ap (λ (v : ℕ). record { 0 = v }) (c.later.ensures ∙ ap (λ (v : ℕ). max v a.view.0) c.latest_at-earlier.ensures))

pub returns : goal.returns
returns c = rw (ne_eqb _ _ c.if-node-reporter.false) (ap (λ (v : ℕ). record { 0 = v }) c.latest_at-earlier.ensures)
