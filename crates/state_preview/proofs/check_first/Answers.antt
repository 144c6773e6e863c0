-- `state_preview::check_first` meets its contract: the rows in their order, or row 3 of the node alone. Assumes nothing.
use mathlib.Core.Logic.{inl, inr}
use mathlib.Core.Path.{refl, sym, ap, ◌∙◌}
use Rattle.base_lent.specs.Definitions.{words_in}
use Rattle.report_desk.specs.Bytes.{desk_length}
use Rattle.state_planner.specs.declared.State.{State}
use Rattle.state_planner.specs.Definitions.{holding, check_refusal}
use Rattle.state_preview.specs.Steps.{found_event, found_check}
use Rattle.state_preview.proofs.check_first.Goals as goal

pub returns-then-not-in_phase : goal.returns-then-not-in_phase
returns-then-not-in_phase c =
    let a = c.args in
    let p = c.is_gathering-in_phase in
    let q = c.has-known in
    (_, (c.check_event.ensures, found_event a.settings.now a.x (words_in a.desk.now) a.node.0 a.fewer p.result q.result _ p.ensures q.ensures refl (inl (c.if-not-in_phase.true))))

pub returns-then-not-known : goal.returns-then-not-known
returns-then-not-known c =
    let a = c.args in
    let p = c.is_gathering-in_phase in
    let q = c.has-known in
    (_, (c.check_event-then-not-known.ensures, found_event a.settings.now a.x (words_in a.desk.now) a.node.0 a.fewer p.result q.result _ p.ensures q.ensures refl (inr (c.if-not-known.true))))

pub returns : goal.returns
returns c =
    let s = c in
    let a = s.args in
    let p = c.is_gathering-in_phase in
    let q = c.has-known in
    let d = words_in a.desk.now in
    let is = c.holding.ensures ∙ ap (holding a.x) c.minus.ensures in (
      _,
      (
        c.check_under.ensures,
        found_check a.settings.now a.x d a.node.0 a.fewer s.requires.settings (desk_length a.desk.now s.requires.desk_len)
            (sym p.ensures ∙ c.if-not-in_phase.false) (sym q.ensures ∙ c.if-not-known.false) _
            (ap (λ (y : State). check_refusal a.settings.now y d) is),
      ),
    )
