-- `report_quick::members_told` meets its contract. The invariant: what is promised, of the shards below s.
use mathlib.Core.Bool.{false≢true}
use mathlib.Core.Logic.{⊎_elim}
use mathlib.Core.Path.{sym, subst}
use native.Mathlib.Omega.{arith}
use Rattle.base_laws.specs.Bools.{eq_or_ne}
use Rattle.report_quick.specs.Told.{MemberTold}
use Rattle.report_quick.proofs.members_told.Goals as goal

pub loop-s-init : goal.loop-s-init
loop-s-init c = λ j l. absurd (omega arith)

pub returns-then-not-member_told : goal.returns-then-not-member_told
returns-then-not-member_told c =
    λ e. absurd (false≢true e)

pub loop-s-preserved : goal.loop-s-preserved
loop-s-preserved c = λ j l. ⊎_elim (λ e. subst (MemberTold c.args.w.now) (sym e) (c.member_told.ensures c.if-not-member_told.false)) (λ e. c.loop-s.invariant j (omega arith)) (eq_or_ne j c.loop-s.s)

pub returns : goal.returns
returns c =
    λ e j l. c.loop-s.invariant j (omega arith)
