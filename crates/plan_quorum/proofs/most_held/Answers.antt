-- `plan_quorum::most_held` meets its contract: at least the least majority is more than half.
use mathlib.Core.Path.{ap, ◌∙◌}
use lib.Dec.{leb}
use Rattle.plan_quorum.specs.Quorum.{least_held}
use Rattle.plan_quorum.proofs.most_held.Goals as goal

pub returns : goal.returns
returns c = let a = c.args in
    let m = c.count in
    let l = c.least_majority in
    ap (leb l.result) c.count-2.ensures ∙ least_held a.members a.held m.result l.result m.ensures l.ensures
