-- `report_kept::read_in` meets its contract: by whether the reading refuses. Assumes nothing.
use Rattle.report_kept.specs.Laws.{reading_leaves, reading_takes}
use Rattle.report_kept.proofs.read_in.Goals as goal

pub returns-in-Ok : goal.returns-in-Ok
returns-in-Ok c =
    let a = c.args in
    reading_takes a.settings.now a.v a.t a.latest a.message.now _ c.in-Ok.ensures _ c.renew-renewed.ensures

pub returns-in-Err : goal.returns-in-Err
returns-in-Err c =
    let a = c.args in
    reading_leaves a.settings.now a.v a.t a.latest a.message.now _ c.in-Err.ensures
