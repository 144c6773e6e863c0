-- `history_open::says_never` meets its contract: each test in its turn.
use mathlib.Core.Path.{sym}
use Rattle.history_open.specs.Definitions.{says_never}
use Rattle.history_open.proofs.says_never.Goals as goal

pub returns-then-not-disjoint : goal.returns-then-not-disjoint
unfolding says_never
returns-then-not-disjoint c = simp (sym c.disjoint.ensures, c.if-not-disjoint.true)

pub returns : goal.returns
unfolding says_never
returns c = simp (sym c.disjoint.ensures, c.if-not-disjoint.false)
