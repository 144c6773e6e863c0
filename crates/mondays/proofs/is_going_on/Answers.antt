-- `mondays::is_going_on` meets its contract. Assumes nothing.
use mathlib.Core.Path.{sym, ◌∙◌}
use borrow.Author.Tests.{not-true, not-false, eq-eqb, ne_eqb}
use Rattle.mondays.specs.Program.{not_written, was_refused, goes_as}
use Rattle.mondays.proofs.is_going_on.Goals as goal

pub returns-then-not-tallied : goal.returns-then-not-tallied
returns-then-not-tallied c = sym (not_written c.args.tallied (not-true _ c.if-not-tallied.true))

pub returns-then-tallied-ne0 : goal.returns-then-tallied-ne0
returns-then-tallied-ne0 c = sym (was_refused c.args.tallied (not-false _ c.if-not-tallied.false) (ne_eqb _ 0 c.if-tallied-ne0.true))

pub returns : goal.returns
returns c = c.is_open.ensures ∙ sym (goes_as c.args.tallied (not-false _ c.if-not-tallied.false) (eq-eqb _ 0 c.if-tallied-ne0.false))
