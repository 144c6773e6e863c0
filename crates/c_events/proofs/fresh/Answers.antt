-- Each return is a case of what the call answers and leaves.
use mathlib.Core.Path.{sym, ◌∙◌}
use Rattle.c_events.specs.EventCases.{fresh_barred, fresh_not_640, fresh_stored}
use Rattle.c_events.proofs.fresh.Goals as goal

pub returns-then-not-by_planner : goal.returns-then-not-by_planner
returns-then-not-by_planner c =
    let t = fresh_barred c.args.role c.args.state.now (sym c.by_planner.ensures ∙ c.if-not-by_planner.true) in
    record { answer = t.0; bytes = t.1 }

pub returns-then-state-ne640 : goal.returns-then-state-ne640
returns-then-state-ne640 c =
    let t = fresh_not_640 c.args.role c.args.state.now (sym c.by_planner.ensures ∙ c.if-not-by_planner.false) c.if-state-ne640.true in
    record { answer = t.0; bytes = t.1 }

pub returns : goal.returns
returns c =
    let asked = c in
    let t = fresh_stored c.args.role c.args.state.now (sym asked.by_planner.ensures ∙ asked.if-not-by_planner.false) c.if-state-ne640.false _
    c.fresh.ensures _ c.store.ensures in
    record { answer = t.0; bytes = t.1 }
