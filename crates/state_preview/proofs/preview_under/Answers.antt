-- `state_preview::preview_under` meets its contract: what is found first, or what the copy decides. Assumes nothing.
use mathlib.Core.Path.{ap, ◌∙◌, subst}
use Rattle.base_ids.specs.declared.Refusal.{Refusal}
use Rattle.base_ids.specs.Results.{err_code}
use Rattle.base_lent.specs.Definitions.{words_in}
use Rattle.report_desk.specs.Bytes.{desk_length}
use Rattle.state_planner.specs.declared.State.{State}
use Rattle.state_planner.specs.Definitions.{Decides}
use Rattle.state_planner.specs.EventLaws.{given_refusal, given_none}
use Rattle.state_preview.specs.Steps.{previews_refused, previews_copy}
use Rattle.state_preview.proofs.preview_under.Goals as goal

pub returns-in-Err : goal.returns-in-Err
returns-in-Err c =
    let a = c.args in
    let k = c.in-Err.ensures in
    let e = given_refusal _ _ _ k.1.0 in
    let h = err_code _ _ _ k.1.0 in
    previews_refused a.settings.now a.x (words_in a.desk.now) a.node.0 _ (e ∙ k.1.1.refuses (λ z. h (ap (λ (q : Refusal). q.code) e ∙ z))) h c.refuse.ensures

pub returns-in-Ok : goal.returns-in-Ok
returns-in-Ok c =
    let s = c in
    let a = s.args in
    let k = c.in-Ok.ensures in
    let f = c.without-fewer in
    let o = c.decide_under in
    let d = words_in a.desk.now in
    previews_copy a.settings.now a.x d a.node.0 s.requires.settings (desk_length a.desk.now s.requires.desk_len) f.result f.ensures k.0 k.1.1 (ap (λ (q : Refusal). q.code) (given_none _ _ _ k.1.0)) o.result
    (subst (λ (y : State). Decides a.settings.now y d o.result) c.holding.ensures o.ensures) c.hand_back.ensures
