-- `state_planner::State::decide_within_under` meets its contract: the refusal is the definition's, and else the verdict gives state and answer. Assumes nothing.
use mathlib.Core.Bool.{Bool, true}
use mathlib.Core.Path.{◌≡◌, sym, ap, ◌∙◌, subst⁻¹}
use Rattle.base_ids.specs.declared.Refusal.{Refusal}
use Rattle.base_ids.specs.Definitions.{accepted}
use Rattle.plan_restart.specs.Kept.{held_below, number_to}
use Rattle.plan_restart.specs.Answers.{offered_from}
use Rattle.plan_restart.specs.Offering.{offers_told}
use Rattle.state_planner.specs.declared.Decision.{Decision}
use Rattle.state_planner.specs.declared.DecidedWithin.{DecidedWithin}
use Rattle.state_planner.specs.Definitions.{entry_refusal, desk_ok, decide_refusal, still_within, DecidesWithin}
use Rattle.state_planner.specs.DecideWithin.{within_refused, within-by}
use Rattle.state_planner.specs.DecideLaws.{decide_kept, decide_slots}
use Rattle.state_planner.specs.EventLaws.{given_refusal, given_refuses, given_none}
use Rattle.base_lent.specs.Definitions.{words_in}
use Rattle.state_planner.proofs.State.decide_within_under.Goals as goal

pub offer-offered-requires : goal.offer-offered-requires
unfolding decide_refusal
offer-offered-requires c =
    let s = c in
    let a = s.args in
    let g = c.is_gathering-gathering in
    let d = words_in a.desk.now in
    let t : accepted (decide_refusal a.settings.now a.self d) ≡ true =
    ap accepted (sym (ap (λ (p : Bool). entry_refusal (desk_ok d) a.settings.now a.self d p) g.ensures) ∙ given_none _ _ _ (sym c.in-Ok.is ∙ c.enter-entered.ensures.rows)) in
    let h = decide_kept a.settings.now a.self d t in
    record { settings = s.requires.settings; number_bound = number_to a.settings.now a.self.kept a.self.termination a.self.held h; held_bound = held_below a.settings.now a.self.kept a.self.termination a.self.held h }

pub returns-in-Ok : goal.returns-in-Ok
unfolding decide_refusal
returns-in-Ok c =
    let s = c in
    let a = s.args in
    let g = c.is_gathering-gathering in
    let d = words_in a.desk.now in
    let t : accepted (decide_refusal a.settings.now a.self d) ≡ true =
    ap accepted (sym (ap (λ (p : Bool). entry_refusal (desk_ok d) a.settings.now a.self d p) g.ensures) ∙ given_none _ _ _ (sym c.in-Ok.is ∙ c.enter-entered.ensures.rows)) in
    subst⁻¹ (λ (r : DecidedWithin). DecidesWithin a.settings.now a.self d a.rounds r) c.after_offer.ensures
    (within-by a.settings.now a.self d a.rounds t (offered_from c.offer-offered.result)
    (offers_told a.settings.now a.self.kept a.self.termination a.self.held d _ c.enter-entered.ensures.seen s.requires.settings (decide_slots a.settings.now a.self d t) a.rounds
    (decide_kept a.settings.now a.self d t) (offered_from c.offer-offered.result) c.offer-offered.ensures))

pub returns-in-Err : goal.returns-in-Err
unfolding decide_refusal
returns-in-Err c =
    let a = c.args in
    let g = c.is_gathering-gathering in
    let d = words_in a.desk.now in
    let k = sym c.in-Err.is ∙ c.enter-entered.ensures.rows in
    let f = given_refusal _ _ _ k ∙ ap (λ (p : Bool). entry_refusal (desk_ok d) a.settings.now a.self d p) g.ensures in
    within_refused a.settings.now a.self d a.rounds _ (sym (ap accepted f) ∙ given_refuses _ _ _ k) (ap (λ (r : Refusal). still_within a.self (Decision.Refused r)) f)
