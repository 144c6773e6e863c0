-- `report_cuts::shared_whole` meets its contract, test by test.
use mathlib.Core.Path.{sym}
use lib.Dec.{eqb, ltb}
use borrow.Author.Tests.{eq-eqb, ne_eqb}
use Rattle.base_laws.specs.Bools.{and_both, and_rest, and_fails_left, and_fails_right}
use Rattle.report_cuts.proofs.shared_whole.Goals as goal

pub returns-then-v-w : goal.returns-then-v-w
returns-then-v-w c = let x = c.args in
    sym (and_fails_left (ltb x.q.view.0 x.t.view.0) (and_fails_left (eqb x.r.k x.q.k) (ne_eqb x.r.view.0 x.q.view.0 c.if-v-w.true)))

pub returns-then-r-q : goal.returns-then-r-q
returns-then-r-q c = let x = c.args in
    sym (and_fails_left (ltb x.q.view.0 x.t.view.0) (and_fails_right (eqb x.r.view.0 x.q.view.0) (ne_eqb x.r.k x.q.k c.if-r-q.true)))

pub returns : goal.returns
returns c = let x = c.args in
    and_rest (ltb x.q.view.0 x.t.view.0) (and_both (eq-eqb x.r.view.0 x.q.view.0 c.if-v-w.false) (eq-eqb x.r.k x.q.k c.if-r-q.false))
