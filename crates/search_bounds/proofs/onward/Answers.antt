-- All nodes, or those past the ones before t. Assumes nothing.
use mathlib.Core.Path.{sym, subst}
use Prim.Native.Nat.{ℕ}
use native.Mathlib.Omega.{arith}
use Rattle.search_bounds.specs.Rows.{Onward, onward_all, onward_rest}
use Rattle.search_bounds.proofs.onward.Goals as goal

pub returns-then-t-i : goal.returns-then-t-i
returns-then-t-i c = onward_all _ _ _

pub returns : goal.returns
returns c = let a = c.args in
    subst (λ (r : ℕ). Onward a.m a.t a.i r) (sym c.minus.ensures) (onward_rest a.m a.t a.i c.before_node.result (omega (arith, c.if-t-i.false)) c.before_node.ensures)
