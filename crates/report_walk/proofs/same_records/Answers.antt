-- `report_walk::same_records` meets its contract. The invariant: what is promised, of the pairs below k.
use Rattle.std.proofs.Common.{◌≡◌, ℕ, ◌+◌, ◌*◌, get_or, sym, subst, ⊎_elim, arith}
use mathlib.Core.Bool.{false≢true}
use Rattle.base_laws.specs.Bools.{eq_or_ne}
use Rattle.report_walk.proofs.same_records.Goals as goal

pub loop-k-init : goal.loop-k-init
loop-k-init c = λ j l. absurd (omega arith)

pub returns-then-b-from : goal.returns-then-b-from
returns-then-b-from c = λ e. absurd (false≢true e)

pub loop-k-preserved : goal.loop-k-preserved
loop-k-preserved c = let a = c.args in λ j l. ⊎_elim (λ e. subst (λ (i : ℕ). get_or a.b.now (2 * a.from + i) 0 ≡ get_or a.given.now i 0) (sym e) c.if-b-from.false) (λ e. c.loop-k.invariant j (omega arith)) (eq_or_ne j c.loop-k.k)

pub returns : goal.returns
returns c = λ e j l. c.loop-k.invariant j (omega arith)
