-- `state_preview::hand_back` meets its contract: decision by decision. Assumes nothing.
use mathlib.Core.Path.{sym, ap, ◌∙◌}
use Rattle.state_planner.specs.declared.Decision.{Decision}
use Rattle.state_preview.specs.Steps.{handed_back}
use Rattle.state_preview.proofs.hand_back.Goals as goal

pub returns-in-Planned : goal.returns-in-Planned
unfolding handed_back
returns-in-Planned c =
    let a = c.args in
    sym (ap (λ (k : Decision). handed_back k a.x a.decided) c.in-Planned.is)

pub returns-in-Wait : goal.returns-in-Wait
unfolding handed_back
returns-in-Wait c =
    let a = c.args in
    sym (ap (λ (k : Decision). handed_back k a.x a.decided) c.in-Wait.is)

pub returns-in-Refused : goal.returns-in-Refused
unfolding handed_back
returns-in-Refused c =
    let a = c.args in
    c.refuse.ensures ∙ sym (ap (λ (k : Decision). handed_back k a.x a.decided) c.in-Refused.is)
