-- `plan_page::placement` meets its contract: phase by phase. Assumes nothing.
use Rattle.report_views.specs.declared.Phase.TheVariants.{Gathering, Ordered, Preparing, Committed}
use Rattle.plan_page.specs.Turns.{placed_in}
use Rattle.plan_page.proofs.placement.Goals as goal

pub returns-in-Gathering : goal.returns-in-Gathering
returns-in-Gathering c =
    let a = c.args in
    placed_in a.phase Gathering a.settings.now a.kept a.held a.plan a.g c.place_one.result c.in-Gathering.is c.place_one.ensures

pub returns-in-Ordered : goal.returns-in-Ordered
returns-in-Ordered c =
    let a = c.args in
    placed_in a.phase Ordered a.settings.now a.kept a.held a.plan a.g c.repeated.result c.in-Ordered.is c.repeated.ensures

pub returns-in-Preparing : goal.returns-in-Preparing
returns-in-Preparing c =
    let a = c.args in
    placed_in a.phase Preparing a.settings.now a.kept a.held a.plan a.g c.repeated-in-Preparing.result c.in-Preparing.is c.repeated-in-Preparing.ensures

pub returns-in-Committed : goal.returns-in-Committed
returns-in-Committed c =
    let a = c.args in
    placed_in a.phase Committed a.settings.now a.kept a.held a.plan a.g c.repeated-in-Committed.result c.in-Committed.is c.repeated-in-Committed.ensures
