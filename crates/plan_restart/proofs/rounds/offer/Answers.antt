-- `plan_restart::rounds::offer` meets its contract: a condition that fails is a wait, and else the placement that the rounds reach gives the offer.
-- Assumes nothing.
use mathlib.Core.Path.{refl, sym, ap, ◌∙◌}
use Rattle.std.proofs.lemmas.Result.{err_from_is_err_and}
use Rattle.plan_quorum.specs.Answer.{quorum_from}
use Rattle.plan_restart.specs.Answers.{verdict_from}
use Rattle.plan_restart.specs.declared.Verdict.{Verdict}
use Rattle.plan_restart.specs.Offering.{offer_waits, offer_met, offer_none}
use Rattle.plan_restart.proofs.rounds.offer.Goals as goal

pub returns-in_err-quorum : goal.returns-in_err-quorum
returns-in_err-quorum c =
    let s = c in
    let q = c.quorum in
    let p = err_from_is_err_and c.from_residual.result c.from_residual.ensures.1 in
    rw (p.1, p.2)
    (offer_waits s.args.settings.now s.args.kept s.args.held s.args.seen s.args.rounds (quorum_from q.result) q.ensures _ _
    (ap quorum_from c.in_err-quorum.was) refl)

-- a subgroup has no placement: beside the wait there is no gap
pub returns-in_err-plan : goal.returns-in_err-plan
returns-in_err-plan c =
    let s = c in
    let q = c.quorum in
    let p = c.improve-within in
    let r = err_from_is_err_and c.from_residual-in_err-plan.result c.from_residual-in_err-plan.ensures.1 in
    rw (r.1, r.2)
    (offer_met s.args.settings.now s.args.kept s.args.held s.args.seen s.args.rounds (quorum_from q.result) q.ensures p.result _ p.ensures
    (ap quorum_from c.in_ok-quorum.was)
    (offer_none s.args.settings.now s.args.kept s.args.held s.args.seen s.args.rounds p.result p.ensures _ (sym (ap verdict_from c.in_err-plan.was) ∙ c.verdict_by.ensures)))

pub returns : goal.returns
returns c =
    let s = c in
    let q = c.quorum in
    let p = c.improve-within in
    offer_met s.args.settings.now s.args.kept s.args.held s.args.seen s.args.rounds (quorum_from q.result) q.ensures p.result _ p.ensures
    (ap quorum_from c.in_ok-quorum.was)
    (ap (λ (v : Verdict). record { verdict = v; gap = p.result.gap }) (sym (ap verdict_from c.in_ok-plan.was) ∙ c.verdict_by.ensures))
