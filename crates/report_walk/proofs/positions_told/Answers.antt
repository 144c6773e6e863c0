-- `report_walk::positions_told` meets its contract.
use mathlib.Core.Bool.{false≢true}
use Rattle.std.proofs.Common.{sym, ◌∙◌, eqb-true}
use Rattle.report_walk.proofs.positions_told.Goals as goal

pub returns-then-not-made : goal.returns-then-not-made
returns-then-not-made c = λ e. absurd (false≢true e)

pub returns-then-high-count : goal.returns-then-high-count
returns-then-high-count c = λ e. absurd (false≢true e)

pub returns-then-not-same_records : goal.returns-then-not-same_records
returns-then-not-same_records c = λ e. absurd (false≢true e)

pub returns : goal.returns
returns c = λ e. record {
  kept = c.if-not-made.false;
  linked = sym c.high.ensures ∙ c.if-high-count.false;
  same = c.same_records.ensures c.if-not-same_records.false;
  last = sym c.low.ensures ∙ (eqb-true _ _ e ∙ c.low-2.ensures);
}
