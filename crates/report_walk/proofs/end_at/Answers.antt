-- `report_walk::end_at` meets its contract.
use Rattle.std.proofs.Common.{get_or, eq-eqb, ne_eqb}
use Rattle.report_walk.specs.Seen.{end_key}
use Rattle.report_walk.proofs.end_at.Goals as goal

pub returns-then-i-eq0 : goal.returns-then-i-eq0
unfolding end_key
returns-then-i-eq0 c = rw (eq-eqb (get_or c.args.last.now c.args.s 0) 0 c.if-i-eq0.true)

pub returns : goal.returns
unfolding end_key
returns c = rw (ne_eqb (get_or c.args.last.now c.args.s 0) 0 c.if-i-eq0.false) c.end_key.ensures
