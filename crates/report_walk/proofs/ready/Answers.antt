-- `report_walk::ready` meets its contract, test by test.
use Rattle.std.proofs.Common.{◌≡◌, ℕ, true, sym, ◌∙◌, subst}
use Rattle.base_laws.specs.Definitions.{within}
use Rattle.base_laws.specs.Bools.{of_not_false}
use Rattle.report_walk.specs.Kept.{ready_of, ready_by}
use Rattle.report_walk.proofs.ready.Goals as goal

pub returns-then-not-view_ok : goal.returns-then-not-view_ok
unfolding ready_of
returns-then-not-view_ok c = simp (sym c.view_ok.ensures, c.if-not-view_ok.true)

pub returns-then-not-within : goal.returns-then-not-within
unfolding ready_of
returns-then-not-within c = simp (sym c.view_ok.ensures, c.if-not-view_ok.false, sym c.nodes.ensures, sym c.within.ensures, c.if-not-within.true)

pub returns-then-not-row10 : goal.returns-then-not-row10
unfolding ready_of
returns-then-not-row10 c = simp (sym c.view_ok.ensures, c.if-not-view_ok.false, sym c.nodes.ensures, sym c.within.ensures, c.if-not-within.false, sym c.row10.ensures, c.if-not-row10.true)

pub returns-then-not-t : goal.returns-then-not-t
unfolding ready_of
returns-then-not-t c = simp (sym c.view_ok.ensures, c.if-not-view_ok.false, sym c.nodes.ensures, sym c.within.ensures, c.if-not-within.false, sym c.row10.ensures, c.if-not-row10.false, c.if-not-t.true)

pub returns : goal.returns
returns c = let a = c.args in
    let view = c.view_ok in
    let n = c.nodes in
    let inside = c.within in
    let masks = c.row10 in
    ready_by a.settings.now a.v a.t (sym view.ensures ∙ c.if-not-view_ok.false)
    (subst (λ (x : ℕ). within x a.v.members ≡ true) n.ensures (sym inside.ensures ∙ c.if-not-within.false))
    (sym masks.ensures ∙ c.if-not-row10.false) (of_not_false a.t.made c.if-not-t.false)
    c.shards.result c.shards.ensures c.positions_legal.result c.positions_legal.ensures
