-- `program_reading::is_going_on` meets its contract. Assumes nothing.
use mathlib.Core.Bool.{Bool, false, cond}
use mathlib.Core.Path.{sym, ap, ◌∙◌}
use Rattle.program_input.specs.Definitions.{may_come}
use Rattle.program_reading.proofs.is_going_on.Goals as goal

pub returns-then-is_closed : goal.returns-then-is_closed
returns-then-is_closed c =
    sym (ap (λ (b : Bool). cond b false (may_come c.args.intake.input.source)) (sym c.is_closed.ensures ∙ c.if-is_closed.true))

pub returns : goal.returns
returns c =
    c.is_open.ensures
    ∙ sym (ap (λ (b : Bool). cond b false (may_come c.args.intake.input.source)) (sym c.is_closed.ensures ∙ c.if-is_closed.false))
