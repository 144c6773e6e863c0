-- `state_preview::preview_all_under` meets its contract: rows 3 and 4, then the losses by the masks that are counted. Assumes nothing.
use mathlib.Core.Bool.{Bool}
use mathlib.Core.Path.{◌≡◌, sym, ap, ◌∙◌, refl}
use Rattle.std.specs.Prelude.{Some}
use Rattle.base_lent.specs.Definitions.{words_in}
use Rattle.base_ids.specs.Definitions.{none, accepted}
use Rattle.base_ids.specs.Results.{err_code}
use Rattle.plan_restart.specs.Kept.{held_below}
use Rattle.state_planner.specs.Definitions.{entry_refusal, desk_ok, decide_refusal}
use Rattle.plan_masks.specs.Counted.{counted_from, counted_some}
use Rattle.state_planner.specs.DecideLaws.{decide_kept, decide_slots}
use Rattle.state_planner.specs.EventLaws.{given_refusal, given_none}
use Rattle.state_preview.specs.Steps.{warns_refused, warns_told}
use Rattle.state_preview.proofs.preview_all_under.Goals as goal

pub returns-in-Err : goal.returns-in-Err
unfolding decide_refusal
returns-in-Err c =
    let a = c.args in
    let k = sym c.in-Err.is ∙ c.enter-entry.ensures.rows in
    let d = words_in a.desk.now in
    warns_refused a.settings.now a.x d _
    (given_refusal _ _ _ k ∙ ap (λ (p : Bool). entry_refusal (desk_ok d) a.settings.now a.x d p) c.is_gathering-in_phase.ensures) (err_code _ _ _ k)

-- the slots of the held nodes are sound
pub unwrap-masks-requires : goal.unwrap-masks-requires
unfolding decide_refusal
unwrap-masks-requires c =
    let a = c.args in
    let d = words_in a.desk.now in
    let e : none ≡ decide_refusal a.settings.now a.x d =
    sym (given_none _ _ _ (sym c.in-Ok.is ∙ c.enter-entry.ensures.rows)) ∙ ap (λ (p : Bool). entry_refusal (desk_ok d) a.settings.now a.x d p) c.is_gathering-in_phase.ensures in
    counted_some a.settings.now a.x.kept a.x.termination a.x.held d c.count-counted.result c.count-counted.ensures (decide_slots a.settings.now a.x d (sym (ap accepted e)))

pub losses-requires : goal.losses-requires
unfolding decide_refusal
losses-requires c =
    let s = c in
    let a = s.args in
    let d = words_in a.desk.now in
    let e : none ≡ decide_refusal a.settings.now a.x d =
    sym (given_none _ _ _ (sym c.in-Ok.is ∙ c.enter-entry.ensures.rows)) ∙ ap (λ (p : Bool). entry_refusal (desk_ok d) a.settings.now a.x d p) c.is_gathering-in_phase.ensures in
    record { settings = s.requires.settings; held_bound = held_below a.settings.now a.x.kept a.x.termination a.x.held (decide_kept a.settings.now a.x d (sym (ap accepted e))) }

pub returns-in-Ok : goal.returns-in-Ok
unfolding decide_refusal
returns-in-Ok c =
    let a = c.args in
    let n = c.count-counted in
    let d = words_in a.desk.now in
    let e : none ≡ decide_refusal a.settings.now a.x d =
    sym (given_none _ _ _ (sym c.in-Ok.is ∙ c.enter-entry.ensures.rows)) ∙ ap (λ (p : Bool). entry_refusal (desk_ok d) a.settings.now a.x d p) c.is_gathering-in_phase.ensures in
    warns_told a.settings.now a.x d none e refl (counted_from (Some c.unwrap-masks.result)) (sym (ap counted_from c.unwrap-masks.ensures) ∙ n.ensures)
    c.losses.result c.losses.ensures
