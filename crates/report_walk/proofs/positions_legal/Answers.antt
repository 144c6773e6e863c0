-- `report_walk::positions_legal` meets its contract. The invariant: every position below s passes.
use Rattle.std.proofs.Common.{ℕ, Bool, List, get_or, sym, ◌∙◌, arith}
use Rattle.base_laws.specs.Below.{all_none}
use Rattle.base_laws.proofs.Below.{all_more, all_fails, all_fewer}
use Rattle.base_ids.specs.declared.Position.{Position}
use Rattle.report_views.specs.Definitions.{start, position_sound}
use Rattle.report_walk.proofs.positions_legal.Goals as goal

abbrev ok : ℕ → List Position → ℕ → Bool
ok number positions s = position_sound number (get_or positions s start)

pub loop-s-init : goal.loop-s-init
loop-s-init c = all_none (ok c.args.number.0 c.args.t.positions)

pub returns-then-not-position_legal : goal.returns-then-not-position_legal
returns-then-not-position_legal c = let a = c.args in
    let k = c.position_legal in
    let l = c.loop-s in
    sym (all_fails a.count (ok a.number.0 a.t.positions) l.s (omega arith) (sym k.ensures ∙ c.if-not-position_legal.true))

pub loop-s-preserved : goal.loop-s-preserved
loop-s-preserved c = let a = c.args in
    let k = c.position_legal in
    let l = c.loop-s in all_more l.s (ok a.number.0 a.t.positions) l.invariant (sym k.ensures ∙ c.if-not-position_legal.false)

pub returns : goal.returns
returns c = let a = c.args in
    let l = c.loop-s in
    sym (all_fewer a.count l.s (ok a.number.0 a.t.positions) (omega arith) l.invariant)
