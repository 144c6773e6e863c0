-- `report_walk::front_told` meets its contract.
use mathlib.Core.Bool.{false≢true}
use Rattle.std.proofs.Common.{sym, ◌∙◌, eqb-true}
use Rattle.report_walk.proofs.front_told.Goals as goal

pub returns-then-b-joined : goal.returns-then-b-joined
returns-then-b-joined c = λ e. absurd (false≢true e)

pub returns-then-b-joined-2 : goal.returns-then-b-joined-2
returns-then-b-joined-2 c = λ e. absurd (false≢true e)

pub returns-then-not-has : goal.returns-then-not-has
returns-then-not-has c = λ e. absurd (false≢true e)

pub returns-then-not-same_records : goal.returns-then-not-same_records
returns-then-not-same_records c = λ e. absurd (false≢true e)

pub returns : goal.returns
returns c = λ e. record {
  head_front = c.if-b-joined.false ∙ c.joined.ensures.value;
  head_back = c.if-b-joined-2.false ∙ c.joined-2.ensures.value;
  node_fits = c.joined.ensures.low_bound;
  members_fit = c.joined-2.ensures.low_bound;
  member = sym c.has.ensures ∙ c.if-not-has.false;
  same = c.same_records.ensures c.if-not-same_records.false;
  last = sym c.low.ensures ∙ eqb-true _ 0 e;
}
