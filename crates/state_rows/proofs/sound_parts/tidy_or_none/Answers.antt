-- `state_rows::sound_parts::tidy_or_none` meets its contract: a view that passes its rows, or none. Assumes nothing.
use mathlib.Core.Path.{sym}
use Rattle.state_rows.specs.Ready.{tidy_or_none}
use Rattle.state_rows.proofs.sound_parts.tidy_or_none.Goals as goal

pub returns-then-ready : goal.returns-then-ready
unfolding tidy_or_none
returns-then-ready c = simp (c.if-ready.true, sym c.layout_tidy.ensures)

pub returns : goal.returns
unfolding tidy_or_none
returns c = simp (c.if-ready.false, sym c.nothing_kept.ensures)
