-- Each way out has the test that led there. Assumes nothing.
use mathlib.Core.Path.{sym, ap}
use mathlib.Core.Bool.{Bool, cond}
use Prim.Native.Nat.{ℕ}
use native.Mathlib.Omega.{arith}
use borrow.Author.Tests.{lt-ltb, le-ltb}
use Rattle.search_judge.proofs.floor.below.Goals as goal

pub returns-then-a-b : goal.returns-then-a-b
returns-then-a-b c = (sym (ap {B = ℕ} (λ (b : Bool). cond b 1 0) (lt-ltb _ _ c.if-a-b.true)), omega arith)

pub returns-else-a-b : goal.returns-else-a-b
returns-else-a-b c = (sym (ap {B = ℕ} (λ (b : Bool). cond b 1 0) (le-ltb _ _ c.if-a-b.false)), omega arith)
