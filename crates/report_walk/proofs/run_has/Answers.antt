-- `report_walk::run_has` meets its contract.
use Rattle.std.proofs.Common.{◌+◌, ◌*◌, get_or, eq-eqb, ne_eqb}
use Rattle.report_walk.specs.Updates.{run_has}
use Rattle.report_walk.proofs.run_has.Goals as goal

pub returns-then-b-j : goal.returns-then-b-j
unfolding run_has
returns-then-b-j c = let a = c.args in
    rw (ne_eqb (get_or a.b.now (2 * a.j + 2) 0) a.front c.if-b-j.true)

pub returns : goal.returns
unfolding run_has
returns c = let a = c.args in
    rw (eq-eqb (get_or a.b.now (2 * a.j + 2) 0) a.front c.if-b-j.false)
