-- `report_walk::told` meets its contract.
use Rattle.base_laws.specs.Bools.{of_not_false}
use Rattle.report_walk.specs.Told.{told_more}
use Rattle.report_walk.proofs.told.Goals as goal

pub returns : goal.returns
returns c =
    told_more c.rest_told.result
    (λ i h. (h.0, of_not_false c.args.frame.ready c.if-not-frame.false, record { front = c.front_told.ensures c.if-not-front_told.false; rest = h.1 }))
    c.rest_told.ensures
