-- `state_planner::State::decide_under` meets its contract: the refusal is the definition's, and else the verdict gives state and answer. Assumes nothing.
use mathlib.Core.Bool.{Bool, true}
use mathlib.Core.Path.{◌≡◌, sym, ap, ◌∙◌, subst⁻¹}
use Rattle.base_ids.specs.declared.Refusal.{Refusal}
use Rattle.base_ids.specs.Definitions.{accepted}
use Rattle.plan_restart.specs.Kept.{held_below, number_to}
use Rattle.plan_restart.specs.Answers.{verdict_from}
use Rattle.plan_restart.specs.Planning.{restarts_told}
use Rattle.state_planner.specs.declared.Decision.{Decision}
use Rattle.state_planner.specs.declared.Decided.{Decided}
use Rattle.state_planner.specs.Definitions.{entry_refusal, desk_ok, decide_refusal, still, Decides}
use Rattle.state_planner.specs.DecideLaws.{decides_refused, decide_kept, decide_slots, decides_by}
use Rattle.state_planner.specs.EventLaws.{given_refusal, given_refuses, given_none}
use Rattle.base_lent.specs.Definitions.{words_in}
use Rattle.state_planner.proofs.State.decide_under.Goals as goal

pub restart-verdict-requires : goal.restart-verdict-requires
unfolding decide_refusal
restart-verdict-requires c =
    let s = c in
    let a = s.args in
    let g = c.is_gathering-in_phase in
    let d = words_in a.desk.now in
    let t : accepted (decide_refusal a.settings.now a.self d) ≡ true =
    ap accepted (sym (ap (λ (p : Bool). entry_refusal (desk_ok d) a.settings.now a.self d p) g.ensures) ∙ given_none _ _ _ (sym c.in-Ok.is ∙ c.enter-entered.ensures.rows)) in
    let h = decide_kept a.settings.now a.self d t in
    record { settings = s.requires.settings; number_bound = number_to a.settings.now a.self.kept a.self.termination a.self.held h; held_bound = held_below a.settings.now a.self.kept a.self.termination a.self.held h }

pub returns-in-Ok : goal.returns-in-Ok
unfolding decide_refusal
returns-in-Ok c =
    let s = c in
    let a = s.args in
    let g = c.is_gathering-in_phase in
    let d = words_in a.desk.now in
    let t : accepted (decide_refusal a.settings.now a.self d) ≡ true =
    ap accepted (sym (ap (λ (p : Bool). entry_refusal (desk_ok d) a.settings.now a.self d p) g.ensures) ∙ given_none _ _ _ (sym c.in-Ok.is ∙ c.enter-entered.ensures.rows)) in
    subst⁻¹ (λ (r : Decided). Decides a.settings.now a.self d r) c.after_verdict.ensures
    (decides_by a.settings.now a.self d t (verdict_from c.restart-verdict.result)
    (restarts_told a.settings.now a.self.kept a.self.termination a.self.held d _ c.enter-entered.ensures.seen s.requires.settings (decide_slots a.settings.now a.self d t)
    (decide_kept a.settings.now a.self d t) (verdict_from c.restart-verdict.result) c.restart-verdict.ensures))

pub returns-in-Err : goal.returns-in-Err
unfolding decide_refusal
returns-in-Err c =
    let a = c.args in
    let g = c.is_gathering-in_phase in
    let d = words_in a.desk.now in
    let k = sym c.in-Err.is ∙ c.enter-entered.ensures.rows in
    let f = given_refusal _ _ _ k ∙ ap (λ (p : Bool). entry_refusal (desk_ok d) a.settings.now a.self d p) g.ensures in
    decides_refused a.settings.now a.self d _ (sym (ap accepted f) ∙ given_refuses _ _ _ k) (ap (λ (r : Refusal). still a.self (Decision.Refused r)) f)
