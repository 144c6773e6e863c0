-- Each branch by its law. Assumes nothing.
use native.Mathlib.Omega.{arith}
use Rattle.search_judge.specs.Met.{joined_with, joined_other, joined_past}
use Rattle.search_judge.proofs.joined.Goals as goal

pub returns-then-o-i : goal.returns-then-o-i
returns-then-o-i c = joined_other _ _ _ _ (omega arith) (λ e. omega arith)

pub returns-then-f-lt16 : goal.returns-then-f-lt16
returns-then-f-lt16 c = rw c.with.ensures (joined_with _ _ _ _ (omega arith) (omega arith) (omega arith))

pub returns : goal.returns
returns c = joined_past _ _ _ _ (omega arith) (omega arith)
