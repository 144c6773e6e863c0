-- `report_cuts::next_run` meets its contract. The invariant: from record i to record j there is no run of the shard.
use Prim.Native.Nat.{ℕ, ◌-◌}
use mathlib.Core.Path.{◌≡◌, refl, sym, ◌∙◌, subst}
use native.Mathlib.Omega.{arith}
use Rattle.report_views.specs.Definitions.{runs_from}
use Rattle.report_cuts.specs.Walks.{pass_over}
use Rattle.report_cuts.proofs.next_run.Goals as goal

pub loop-j-init : goal.loop-j-init
loop-j-init c = (omega arith, refl)

pub returns-then-is_run : goal.returns-then-is_run
returns-then-is_run c = let l = c.loop-j in
    record { from = l.invariant.0; within = omega (arith, c.loop-j-test.true); is-run = λ h. sym c.is_run.ensures ∙ c.if-is_run.true; rest = l.invariant.1 }

pub loop-j-preserved : goal.loop-j-preserved
loop-j-preserved c = let a = c.args in
    let l = c.loop-j in (omega (arith, l.invariant.0), l.invariant.1 ∙ pass_over a.body.now a.len a.s.0 l.j c.loop-j-test.true (sym c.is_run.ensures ∙ c.if-is_run.false))

pub returns : goal.returns
returns c = let l = c.loop-j in
    let e : l.j ≡ c.args.len = omega (arith, l.auto.j-end (omega arith), c.loop-j-test.false) in
    let a = c.args in
    record {
      from = omega (arith, l.invariant.0);
      within = omega arith;
      is-run = λ h. absurd (omega arith);
      rest = subst (λ (x : ℕ). runs_from a.body.now a.s.0 a.i (a.len - a.i) ≡ runs_from a.body.now a.s.0 x (a.len - x)) e l.invariant.1;
    }
