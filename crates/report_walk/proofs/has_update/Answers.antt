-- `report_walk::has_update` meets its contract. The invariant: no record below j is the one.
use Rattle.std.proofs.Common.{◌≡◌, ℕ, ◌+◌, ◌*◌, ◌%◌, true, false, sym, ap, ◌∙◌, arith}
use Rattle.base_laws.specs.Definitions.{any_below}
use Rattle.base_laws.specs.Below.{any_none, any_more, any_at}
use Rattle.report_walk.specs.Updates.{run_has, update_start, update_no_place, update_found}
use Rattle.report_walk.proofs.has_update.Goals as goal

pub returns-then-goal-eq0 : goal.returns-then-goal-eq0
returns-then-goal-eq0 c = let a = c.args in
    update_start a.b.now a.n a.s a.goal c.if-goal-eq0.true

pub returns-then-k-lt1 : goal.returns-then-k-lt1
returns-then-k-lt1 c = let a = c.args in
    update_no_place a.b.now a.n a.s a.goal c.if-goal-eq0.false c.if-k-lt1.true

pub loop-j-init : goal.loop-j-init
loop-j-init c = let a = c.args in any_none (run_has a.b.now c.joined-front.result (a.goal % 4294967296))

pub returns-then-run_has : goal.returns-then-run_has
returns-then-run_has c = let a = c.args in
    let k = c.run_has in
    let f = c.joined-front in
    update_found a.b.now a.n a.s a.goal c.if-goal-eq0.false c.if-k-lt1.false f.result
    (f.ensures.value ∙ ap (λ (x : ℕ). 768 + a.s + 4294967296 * x) c.high.ensures) true
    (any_at a.n (run_has a.b.now f.result (a.goal % 4294967296)) c.loop-j.j c.loop-j-test.true (sym k.ensures ∙ c.if-run_has.true))

pub loop-j-preserved : goal.loop-j-preserved
loop-j-preserved c = let a = c.args in
    let l = c.loop-j in
    let f = c.joined-front in any_more l.j (run_has a.b.now f.result (a.goal % 4294967296)) l.invariant (sym c.run_has.ensures ∙ c.if-run_has.false)

pub returns : goal.returns
returns c = let a = c.args in
    let l = c.loop-j in
    let f = c.joined-front in
    let e : l.j ≡ a.n = omega (arith, l.auto.j-end, c.loop-j-test.false) in
    update_found a.b.now a.n a.s a.goal c.if-goal-eq0.false c.if-k-lt1.false f.result
    (f.ensures.value ∙ ap (λ (x : ℕ). 768 + a.s + 4294967296 * x) c.high.ensures) false
    (ap (λ (x : ℕ). any_below x (run_has a.b.now f.result (a.goal % 4294967296))) (sym e) ∙ l.invariant)
