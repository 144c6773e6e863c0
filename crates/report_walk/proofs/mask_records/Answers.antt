-- `report_walk::mask_records` meets its contract. The invariant: what is promised, of the shards below s.
use Rattle.std.proofs.Common.{◌+◌, ◌*◌, get_or, set, ◌∙◌, arith, length-set, rules}
use Rattle.report_walk.specs.Seen.{records_turn}
use borrow.Author.Rules.{rules}
use Rattle.report_walk.proofs.mask_records.Goals as goal

pub loop-s-init : goal.loop-s-init
loop-s-init c = (search rules, λ j l. absurd (omega arith))

pub loop-s-preserved : goal.loop-s-preserved
loop-s-preserved c =
    let a = c.args in
    let l = c.loop-s in (length-set (set l.list (2 * l.s) c.joined.result) (2 * l.s + 1) c.joined-in-loop-s.result ∙ (length-set l.list (2 * l.s) c.joined.result ∙ l.invariant.0), records_turn (λ j. 256 + j + 4294967296 * get_or a.masks.now j 0) (λ j. 4294967296 * (j + 2)) l.list l.s c.joined.result c.joined-in-loop-s.result l.invariant.0 c.loop-s-test.true c.joined.ensures.value (omega (arith, c.joined-in-loop-s.ensures.value)) l.invariant.1)

pub returns : goal.returns
returns c = record { fronts = λ s l. (c.loop-s.invariant.1 s (omega arith)).0; backs = λ s l. (c.loop-s.invariant.1 s (omega arith)).1 }
