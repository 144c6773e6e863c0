-- meets its contract
use mathlib.Core.Path.{sym, ◌∙◌}
use Rattle.game_turns.proofs.is_absent.Goals as goal

pub returns-then-has : goal.returns-then-has
returns-then-has c = simp (sym c.has.ensures ∙ c.if-has.true)

pub returns : goal.returns
returns c = simp (sym c.has.ensures ∙ c.if-has.false)
