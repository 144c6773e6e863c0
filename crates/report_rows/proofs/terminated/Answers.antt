-- `report_rows::terminated` meets its contract: the record after those of kind 1 is of kind 2, if there is one.
use Rattle.report_rows.specs.Comparisons.{term_short, term_kind}
use Rattle.report_rows.proofs.terminated.Goals as goal

pub returns-then-len-count : goal.returns-then-len-count
returns-then-len-count c = let a = c.args in
    let n = c.shards-count in
    term_short a.settings.now a.c n.result n.ensures c.if-len-count.true

pub returns : goal.returns
returns c = let a = c.args in
    let n = c.shards-count in
    term_kind a.settings.now a.c n.result n.ensures c.if-len-count.false c.kind.result c.kind.ensures
