-- The loop's invariant: the placement was reached by the rounds that are gone. Assumes nothing.
use Rattle.std.proofs.Common.{◌≡◌, ℕ, ◌+◌, ◌-◌, Some, refl, subst, arith}
use mathlib.Core.Bool.{true≢false, false≢true}
use Rattle.search_laws.specs.Tables.{case_of}
use Rattle.search_total.specs.Post.{as_solution}
use Rattle.search_rounds.specs.Post.{Way, last, way_start, way_low, way_none, way_more}
use Rattle.search_rounds.proofs.better.Goals as goal

pub loop-used-init : goal.loop-used-init
loop-used-init c =
    let a = c.args in
    let e : a.rounds ≡ a.rounds - 0 = omega arith in
    subst (λ (m : ℕ). Way (case_of a.sets.now a.needs.now a.caps.now a.costs.now a.idle) a.rounds (as_solution (Some a.first)) (as_solution (Some a.first)) m) e
    (way_start c.requires.weighed)

pub returns-then-weight-floor : goal.returns-then-weight-floor
returns-then-weight-floor c =
    record {
      standing = c.loop-used.invariant.standing;
      steps = c.loop-used.invariant.steps;
      stuck = λ e. way_low c.loop-used.invariant c.requires.low c.if-weight-floor.true;
      out = λ e. absurd (true≢false e);
    }

pub returns-in-None : goal.returns-in-None
returns-in-None c =
    record {
      standing = c.loop-used.invariant.standing;
      steps = c.loop-used.invariant.steps;
      stuck = λ e. way_none c.loop-used.invariant refl c.in-None.ensures refl;
      out = λ e. absurd (true≢false e);
    }

pub loop-used-preserved : goal.loop-used-preserved
loop-used-preserved c =
    let a = c.args in
    let u = c.loop-used.used in
    let e : a.rounds - u - 1 ≡ a.rounds - (u + 1) = omega arith in
    subst (λ (m : ℕ). Way (case_of a.sets.now a.needs.now a.caps.now a.costs.now a.idle) a.rounds (as_solution (Some a.first)) (as_solution (Some c.in-Some.next)) m) e
    (way_more c.loop-used.invariant (omega (arith, c.loop-used-test.true)) (omega (arith, c.if-weight-floor.false)) refl c.in-Some.ensures refl)

pub returns : goal.returns
returns c =
    record {
      standing = c.loop-used.invariant.standing;
      steps = last (omega (arith, c.loop-used-test.false)) c.loop-used.invariant.steps;
      stuck = λ e. absurd (false≢true e);
      out = λ e. refl;
    }
