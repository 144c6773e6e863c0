-- `report_kept::read_beside` meets its contract: a report that rows 5 to 11 refuse is not looked at further. Assumes nothing.
use Rattle.std.proofs.lemmas.Result.{err_from_is_err_and}
use Rattle.report_kept.specs.Laws.{beside_refused, read_node, beside_taken, beside_kept}
use Rattle.report_kept.proofs.read_beside.Goals as goal

pub returns-in_err-c : goal.returns-in_err-c
returns-in_err-c c =
    let a = c.args in
    let p = err_from_is_err_and c.from_residual.result c.from_residual.ensures.1 in
    rw (p.1, p.2)
    (beside_refused a.settings.now a.v a.t a.latest a.message.now _ c.in_err-c.ensures)

pub kept_refusal-requires : goal.kept_refusal-requires
kept_refusal-requires c =
    let a = c.args in
    record { settings = c.requires; node_bound = read_node a.settings.now a.v a.t a.latest a.message.now _ c.in_ok-c.ensures c.requires }

pub returns-in_err-kept_refusal : goal.returns-in_err-kept_refusal
returns-in_err-kept_refusal c =
    let a = c.args in
    let p = err_from_is_err_and c.from_residual-in_err-kept_refusal.result c.from_residual-in_err-kept_refusal.ensures.1 in
    rw (p.1, p.2)
    (beside_kept a.settings.now a.v a.t a.latest a.message.now _ c.in_ok-c.ensures _ c.in_err-kept_refusal.ensures)

pub returns : goal.returns
returns c =
    let a = c.args in
    beside_taken a.settings.now a.v a.t a.latest a.message.now _ c.in_ok-c.ensures c.in_ok-kept_refusal.ensures
