-- `report_kept::of_kept` meets its contract: a message that the walk tells is a report of the kept view. Assumes nothing.
use mathlib.Core.Bool.{false≢true}
use native.Mathlib.Omega.{arith}
use borrow.Author.Tests.{ltb-true}
use Rattle.report_kept.specs.AtOnce.{walked_kept}
use Rattle.report_kept.proofs.of_kept.Goals as goal

pub returns-in-Some : goal.returns-in-Some
returns-in-Some c = let s = c in
    let a = s.args in
    λ e σ v t right tables.
    walked_kept σ v t a.message.now a.tables right tables (λ k. omega (arith, c.type_inv.message k)) c.pairs-b.ensures (λ l. (c.in-Some.ensures.1, c.in-Some.ensures.2))
    s.requires.in_bounds.1 s.requires.in_bounds.2 (ltb-true _ _ e)

pub returns-in-None : goal.returns-in-None
returns-in-None c = λ e. absurd (false≢true e)
