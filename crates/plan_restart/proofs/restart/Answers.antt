-- `plan_restart::restart` meets its contract: a condition that fails is a wait, and else a placement gives the verdict. Assumes nothing.
use mathlib.Core.Path.{refl, ap}
use Rattle.std.proofs.lemmas.Result.{err_from_is_err_and}
use Rattle.plan_quorum.specs.Answer.{quorum_from}
use Rattle.plan_restart.specs.Answers.{verdict_from}
use Rattle.plan_restart.specs.Planning.{restart_waits, restart_met}
use Rattle.plan_restart.proofs.restart.Goals as goal

pub returns-in_err-quorum : goal.returns-in_err-quorum
returns-in_err-quorum c = let s = c in
    let q = c.quorum in
    let p = err_from_is_err_and c.from_residual.result c.from_residual.ensures.1 in
    rw (p.1, p.2)
    (restart_waits s.args.settings.now s.args.kept s.args.held s.args.seen (quorum_from q.result) q.ensures _ _
    (ap quorum_from c.in_err-quorum.was) refl)

pub returns : goal.returns
returns c = let s = c in
    let q = c.quorum in
    let p = c.place-placed in
    restart_met s.args.settings.now s.args.kept s.args.held s.args.seen (quorum_from q.result) q.ensures p.result
    (verdict_from c.verdict_by.result) p.ensures (ap quorum_from c.in_ok-quorum.was) c.verdict_by.ensures
