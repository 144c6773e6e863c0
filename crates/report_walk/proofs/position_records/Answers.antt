-- `report_walk::position_records` meets its contract. The invariant: what is promised, of the shards below s.
use Rattle.std.proofs.Common.{ℕ, ◌+◌, ◌*◌, ◌<◌, get_or, set, sym, ◌∙◌, subst, ⊎_elim, arith, length-set, rules}
use Rattle.base_laws.specs.Bools.{eq_or_ne}
use Rattle.report_views.specs.Definitions.{start}
use Rattle.report_walk.specs.Seen.{records_turn}
use borrow.Author.Rules.{rules}
use Rattle.report_walk.proofs.position_records.Goals as goal

pub loop-s-init : goal.loop-s-init
loop-s-init c = (search rules, λ j l. absurd (omega arith), λ j l. absurd (omega arith))

pub loop-s-preserved : goal.loop-s-preserved
loop-s-preserved c =
    let a = c.args in
    let l = c.loop-s in (length-set (set l.list (2 * l.s) c.joined.result) (2 * l.s + 1) c.joined-in-loop-s.result ∙ (length-set l.list (2 * l.s) c.joined.result ∙ l.invariant.0), records_turn (λ j. 512 + j + 4294967296 * (get_or a.positions j start).view.0) (λ j. (get_or a.positions j start).k + 4294967296 * (a.count + j + 2)) l.list l.s c.joined.result c.joined-in-loop-s.result l.invariant.0 c.loop-s-test.true c.joined.ensures.value c.joined-in-loop-s.ensures.value l.invariant.1, λ j h. ⊎_elim (λ e. subst (λ (i : ℕ). (get_or a.positions i start).k < 4294967296) (sym e) c.joined-in-loop-s.ensures.low_bound) (λ e. l.invariant.2 j (omega arith)) (eq_or_ne j l.s))

pub returns : goal.returns
returns c = record { fronts = λ s l. (c.loop-s.invariant.1 s (omega arith)).0; backs = λ s l. (c.loop-s.invariant.1 s (omega arith)).1; fit = λ s l. c.loop-s.invariant.2 s (omega arith) }
