-- The words that are looked at are those that were lent, or both are wrong.
use mathlib.Core.Path.{sym, ap, ◌∙◌}
use native.Mathlib.Omega.{arith}
use Rattle.settings_values.specs.Definitions.{settings_ok}
use Rattle.c_messages.specs.Limits.{check_wrong, check_right}
use Rattle.c_messages.proofs.check_settings.Goals as goal

pub slice_bounds-check-end : goal.slice_bounds-check-end
slice_bounds-check-end c = let h = c.settings_of-s.ensures in omega arith

pub returns-then-not-check : goal.returns-then-not-check
returns-then-not-check c =
    check_wrong _
    (ap settings_ok (sym c.settings_of-s.ensures.front)
    ∙ sym c.check.ensures
    ∙ c.if-not-check.true)

pub returns : goal.returns
returns c =
    check_right _
    (ap settings_ok (sym c.settings_of-s.ensures.front)
    ∙ sym c.check.ensures
    ∙ c.if-not-check.false)
