-- A node that must be placed is left over. Assumes nothing.
use mathlib.Core.Bool.{false≢true}
use native.Mathlib.Omega.{arith}
use Rattle.search_hinted.specs.Stage.{only_here_by}
use Rattle.search_hinted.proofs.stuck.Goals as goal

pub returns-then-rows-eq0 : goal.returns-then-rows-eq0
returns-then-rows-eq0 c = λ e. absurd (false≢true e)

pub returns-then-m-eq0 : goal.returns-then-m-eq0
returns-then-m-eq0 c = λ e. absurd (false≢true e)

pub returns : goal.returns
returns c = λ e. only_here_by c.later.ensures c.minus-m.ensures (omega arith) c.if-m-eq0.false
